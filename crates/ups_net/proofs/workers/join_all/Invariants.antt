use Rattle.std.proofs.Common.{◌≡◌, ◌≤◌, ◌+◌, ◌++◌, All, List, length, map, vec_capacity, Global}
use Rattle.std.specs.Vec.Iter.{into_iter_items, into_iter_len}
use Rattle.ups_net.specs.Working.{EndThreads}
use Rattle.ups_turn.specs.Pass.{PassView}
use Rattle.ups_net.specs.declared.options.ServerOptions.{ServerOptions}
use Rattle.ups_net.proofs.workers.join_all.Given as goal

abbrev pub invariant-loop-handle : goal.invariant-loop-handle
invariant-loop-handle g l = record {
  room : length l.passes.items + into_iter_len l.handle-iterator ≤ vec_capacity l.passes;
  capacity : vec_capacity l.passes ≡ vec_capacity l.fn.passes;
  lock : All (λ h. h.promise.start.value.id ≡ l.token.of) (into_iter_items l.handle-iterator);
  ends : (options : ServerOptions) → All (λ h. h.promise.options.value ≡ options) l.fn.handles.items
      → (rest : List (PassView Global)) × (l.passes.items ≡ l.fn.passes.items ++ rest) × All (λ h. h.promise.options.value ≡ options) (into_iter_items l.handle-iterator)
      × ((more : List (PassView Global)) → EndThreads options l.token.value (map (λ h. h.promise.pass.value) (into_iter_items l.handle-iterator)) more
      → EndThreads options l.token.value (map (λ h. h.promise.pass.value) l.fn.handles.items) (rest ++ more));
}
