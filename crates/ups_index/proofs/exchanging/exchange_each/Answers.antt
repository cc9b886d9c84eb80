use Rattle.std.proofs.Common.{arith, ◌⊎◌, List, ℕ, map, Contains}
use Rattle.ups_dataset.specs.declared.tag.Tag.{Tag}
use Rattle.ups_index.specs.Kept.{text_view}
use Rattle.ups_index.specs.Numbers.{text_number}
use Rattle.ups_index.specs.Posts.{post}
use Rattle.ups_index.proofs.Exchanged.{all_of, one_more, still, text_at, texts_then}
use Rattle.ups_index.proofs.exchanging.exchange_each.Goals as goal

pub loop-index-preserved : goal.loop-index-preserved
loop-index-preserved g c =
    let old = map text_view c.args.old.now in
    let new = map text_view c.args.new.now in
    record {
      has = one_more (λ (s : Tag × List ℕ). Contains new s × (Contains old s ⊎ Contains c.exchange_text.new.table.posts (post (text_number s.0 s.1) c.args.place))) c.args.new.now c.loop-index.index c.index-new-index.result c.loop-index-test.true c.index-new-index.is
          (λ s h. let (m, x) = c.loop-index.invariant.has s h in (m, still old c.args.place c.loop-index.table.posts c.exchange_text.new.table.posts s (c.exchange_text.ensures.spares s m) x))
          (text_at c.args.new.now c.loop-index.index c.index-new-index.result c.loop-index-test.true c.index-new-index.is, c.exchange_text.ensures.has);
      keeps = λ n other apart h. c.exchange_text.ensures.keeps n other apart (c.loop-index.invariant.keeps n other apart h);
      spares = texts_then new c.args.place c.args.table.now.posts c.loop-index.table.posts c.exchange_text.new.table.posts c.loop-index.invariant.spares c.exchange_text.ensures.spares;
      room = omega (arith, c.loop-index.invariant.room, c.exchange_text.ensures.room);
    }

pub returns-clause-has : goal.returns-clause-has
returns-clause-has g c = λ s h.
    (all_of (λ (s : Tag × List ℕ). Contains (map text_view c.args.new.now) s × (Contains (map text_view c.args.old.now) s ⊎ Contains c.loop-index.table.posts (post (text_number s.0 s.1) c.args.place))) c.args.new.now c.loop-index.index c.loop-index-test.false c.loop-index.invariant.has s h).1
