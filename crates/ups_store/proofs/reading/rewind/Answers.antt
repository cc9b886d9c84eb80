use Rattle.std.proofs.Common.{Result, Ok, Err, OnOk}
use Rattle.ups_store.proofs.Scans.{placed}
use Rattle.ups_store.proofs.reading.rewind.Goals as goal

mapped : {T E A B : Type 0} (r : Result T E) → (A → B) → OnOk r A → OnOk r B
mapped (Ok x) f h = f h
mapped (Err e) f h = tt

pub returns-clause-left : goal.returns-clause-left
returns-clause-left g c = mapped c.seek.result (λ seeks clean. placed (g.S.Store.view c.args.store.now) (g.S.Store.view c.seek.new.self) c.args.table _ c.clear.ensures (seeks clean)) c.seek.ensures.ok
