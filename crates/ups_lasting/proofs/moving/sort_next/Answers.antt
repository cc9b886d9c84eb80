use Rattle.std.proofs.Common.{sym, ◌∙◌, arith}
use Rattle.ups_lasting.proofs.moving.sort_next.Goals as goal

pub returns-in_ok-begin_carriage-in-Ok : goal.returns-in_ok-begin_carriage-in-Ok
returns-in_ok-begin_carriage-in-Ok g c = record {
  agrees = λ s content drafts i.
      let n = c.in_ok-whole.ensures.sorting s content i.0 in (
        c.in_ok-begin_carriage-in-Ok.ensures.carried s content n.0 (c.in-Ok.ensures.kept ∙ n.1),
        i.1 ∙ sym c.in_ok-begin_carriage-in-Ok.ensures.drafts,
      );
  covers = λ begun content was. omega (arith, was, c.in_ok-whole.ensures.same, c.in_ok-begin_carriage-in-Ok.ensures.same);
}

pub returns-in-Err : goal.returns-in-Err
returns-in-Err g c = record {
  agrees = λ s content drafts i.
      let n = c.in_ok-whole.ensures.sorting s content i.0 in
      ((n.0, c.in-Err.ensures.same ∙ n.1), i.1);
  covers = λ begun content was. omega (arith, was, c.in_ok-whole.ensures.same);
}
