use Rattle.std.proofs.Common.{◌≡◌, ℕ, ◌<◌, ◌^◌, List, length, sym, subst, ap, ◌∙◌, arith}
use Rattle.ups_pdu.specs.declared.syntax.TransferSyntax.TheVariants.{Explicit}
use Rattle.ups_dataset.specs.Written.{written}
use Rattle.ups_dataset.specs.Spelling.{SpellsSet}
use Rattle.ups_journal.proofs.Same.{another, the_same}
use Rattle.ups_journal.proofs.sets.stored_set.Goals as goal

pub returns-in-Err : goal.returns-in-Err
returns-in-Err g c = record {
  read = tt;
  only = λ set stored is. c.set_fault.ensures (c.in-Err.ensures.only set (subst (λ (b : List ℕ). SpellsSet Explicit b set) is stored.again));
}

pub returns-then-size-from-clause-only : goal.returns-then-size-from-clause-only
returns-then-size-from-clause-only g c = λ set stored is.
    let e : c.in-Ok.set ≡ set = c.in-Ok.ensures.only set (subst (λ (b : List ℕ). SpellsSet Explicit b set) is stored.again) in
    let short : length (written Explicit set) < 2 ^ 32 = stored.short in
    let shorter : length (written Explicit c.in-Ok.set) < 2 ^ 32 = rw e short in
    absurd (omega arith)

pub returns-then-ne-clause-only : goal.returns-then-ne-clause-only
returns-then-ne-clause-only g c = λ set stored is.
    let e : c.in-Ok.set ≡ set = c.in-Ok.ensures.only set (subst (λ (b : List ℕ). SpellsSet Explicit b set) is stored.again) in
    absurd (another c.as_slice.result.now c.args.bytes.now c.ne.result c.ne.ensures c.if-ne.true ((c.as_slice.ensures.value ∙ (c.in_ok-again.ensures.written ∙ ap (written Explicit) e)) ∙ is))

pub returns-clause-read : goal.returns-clause-read
returns-clause-read g c =
    let w : c.in_ok-again.again.items ≡ written Explicit c.in-Ok.set = c.in_ok-again.ensures.written in (
      sym w ∙ (sym c.as_slice.ensures.value ∙ the_same c.as_slice.result.now c.args.bytes.now c.ne.result c.ne.ensures c.if-ne.false),
      record {
        short = omega arith;
        again = subst (λ (b : List ℕ). SpellsSet Explicit b c.in-Ok.set) w (c.in_ok-again.ensures.again tt);
      },
    )

pub returns-clause-only : goal.returns-clause-only
returns-clause-only g c = λ set stored is. c.in-Ok.ensures.only set (subst (λ (b : List ℕ). SpellsSet Explicit b set) is stored.again)
