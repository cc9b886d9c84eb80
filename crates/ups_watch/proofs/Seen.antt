-- What is seen of the fields is seen of the table.
use Rattle.std.proofs.Common.{◌≡◌, ℕ, List, length, ap}
use Rattle.ups_dataset.specs.Data.{El}
use Rattle.ups_watch.specs.Table.{WatchersView, watching, knows, covering}

module _ {A : Type 0} (t s : WatchersView A) (e : t ≡ s) where
  pub seen_watching : (p : ℕ) (u : List ℕ) → watching t p u ≡ watching s p u
  seen_watching p u = ap (λ (t : WatchersView A). watching t p u) e

  pub seen_known : (u : List ℕ) → knows t u ≡ knows s u
  seen_known u = ap (λ (t : WatchersView A). knows t u) e

  pub seen_covering : (p : ℕ) (attributes : List El) → covering t p attributes ≡ covering s p attributes
  seen_covering p attributes = ap (λ (t : WatchersView A). covering t p attributes) e

  pub seen_peers : length t.covers ≡ length s.covers
  seen_peers = ap (λ (t : WatchersView A). length t.covers) e
