-- Which trees have the requests and the draft.
use Rattle.std.proofs.Common.{◌≡◌, ◌≢◌, ◌⊎◌, inl, inr, ℕ, Bool, true, false, if◌then◌else◌, List, map, refl, sym, ap, subst, ◌∙◌, arith, ne_eqb, eq-eqb}
use Rattle.sqlite_value.specs.Order.{Row}
use Rattle.sqlite_trees.specs.Objects.{catalog_tree}
use Rattle.sqlite_trees.specs.Tree.{Trees}
use Rattle.sqlite_trees.specs.View.{View, SetsTree, Commits}
use Rattle.ups_store.specs.Rows.{table_listed, spare_listed, table_in, spare_in, requests_in_tree, requests_in, drafts_in, request_in, IsNumbered}
use Rattle.ups_store.specs.Held.{LeavesOthers}

-- 0 or 2
abbrev pub IsLow : ℕ → Type 0
IsLow t = (t ≡ 0) ⊎ (t ≡ 2)

pub low_table : (listed : List Row) → IsLow (table_listed listed)
unfolding table_listed
low_table listed = go _
  where
    go : (b : Bool) → IsLow (if b then 2 else 0)
    go true = inr refl
    go false = inl refl

pub low_spare : (listed : List Row) → IsLow (spare_listed listed)
unfolding spare_listed
low_spare listed = go _
  where
    go : (b : Bool) → IsLow (if b then 0 else 2)
    go true = inl refl
    go false = inr refl

pub apart : (listed : List Row) → spare_listed listed ≢ table_listed listed
unfolding table_listed spare_listed
apart listed = go _
  where
    go : (b : Bool) → ◌≢◌ {A = ℕ} (if b then 0 else 2) (if b then 2 else 0)
    go true e = omega (arith, e)
    go false e = omega (arith, e)

pub low_from : (listed : List Row) (t : ℕ) → table_listed listed ≡ t → IsLow t
low_from listed t is = subst IsLow is (low_table listed)

pub not_catalog : (t : ℕ) → IsLow t → catalog_tree ≢ t
not_catalog t (inl is) e = omega (arith, is, e)
not_catalog t (inr is) e = omega (arith, is, e)

pub not_runs : (t : ℕ) → IsLow t → 1 ≢ t
not_runs t (inl is) e = omega (arith, is, e)
not_runs t (inr is) e = omega (arith, is, e)

pub low_not_runs : (t : ℕ) → IsLow t → t ≢ 1
low_not_runs t low e = not_runs t low (sym e)

-- a write of one tree leaves the others
pub others_set : (old new : View) (t : ℕ) (edit : List Row → List Row) → SetsTree old new t edit → LeavesOthers old new t
others_set old new t edit sets k other = ap (λ (v : View). v.trees k) sets.is ∙ rw (ne_eqb k t other) refl

pub own_set : (old new : View) (t : ℕ) (edit : List Row → List Row) → SetsTree old new t edit → new.trees t ≡ edit (old.trees t)
own_set old new t edit sets = ap (λ (v : View). v.trees t) sets.is ∙ rw (eq-eqb t t refl) refl

pub others_through : (a b c : View) (t : ℕ) → LeavesOthers a b t → LeavesOthers b c t → LeavesOthers a c t
others_through a b c t h k at other = k at other ∙ h at other

-- a write of the requests leaves the list of tables
pub table_stays : (old new : View) (t : ℕ) → IsLow t → LeavesOthers old new t → table_in new.trees ≡ table_in old.trees
table_stays old new t low others = ap table_listed (others catalog_tree (not_catalog t low))

pub spare_stays : (old new : View) (t : ℕ) → IsLow t → LeavesOthers old new t → spare_in new.trees ≡ spare_in old.trees
spare_stays old new t low others = ap spare_listed (others catalog_tree (not_catalog t low))

pub table_beside : (old new : View) → LeavesOthers old new 1 → table_in new.trees ≡ table_in old.trees
table_beside old new others = ap table_listed (others catalog_tree (λ e. omega (arith, e)))

-- the requests of a database whose table is known
pub requests_at : (db : Trees) (t : ℕ) → table_in db ≡ t → requests_in db ≡ requests_in_tree db t
requests_at db t is = ap (requests_in_tree db) is

pub numbered_at : (db : Trees) (t : ℕ) → table_in db ≡ t → IsNumbered (db t) → IsNumbered (db (table_in db))
numbered_at db t is h = subst (λ (k : ℕ). IsNumbered (db k)) (sym is) h

-- the draft stays while the requests are written
pub drafts_stay : (old mid new : View) (t : ℕ) → table_in old.trees ≡ t → old.trees ≡ old.committed → LeavesOthers old mid t → Commits mid new → drafts_in new.committed ≡ drafts_in old.committed
drafts_stay old mid new t tabled same others done =
    let s = spare_in old.trees in
    let spare : spare_in mid.trees ≡ s = spare_stays old mid t (low_from _ t tabled) others in
    let other : s ≢ t = λ e. apart (old.trees catalog_tree) (e ∙ sym tabled) in
    ap (λ (v : View). drafts_in v.committed) done.is ∙ ap (requests_in_tree mid.trees) spare ∙ ap (map request_in) (others s other) ∙ ap drafts_in same

-- and while the runs are
pub drafts_beside : (old mid new : View) → old.trees ≡ old.committed → LeavesOthers old mid 1 → Commits mid new → drafts_in new.committed ≡ drafts_in old.committed
drafts_beside old mid new same others done =
    let s = spare_in old.trees in
    let spare : spare_in mid.trees ≡ s = ap spare_listed (others catalog_tree (λ e. omega (arith, e))) in
    ap (λ (v : View). drafts_in v.committed) done.is ∙ ap (requests_in_tree mid.trees) spare ∙ ap (map request_in) (others s (low_not_runs s (low_spare (old.trees catalog_tree)))) ∙ ap drafts_in same
