-- What the calls of a store do to its records.
use Rattle.std.proofs.Common.{◌≡◌, ℕ, pos, ◌+◌, Bool, true, false, List, [], ◌∷◌, ◌++◌, map, length, Result, Ok, Err, IsTrue, ◌≤◌, IfErr, OnOk, refl, sym, ap, subst, ◌∙◌, arith, true≢false, append_assoc, length-append}
use Rattle.std.proofs.lemmas.List.{length-map}
use Rattle.sqlite_value.specs.Order.{Row}
use Rattle.sqlite_trees.specs.declared.store.Shape.{Shape}
use Rattle.sqlite_trees.specs.Tree.{Trees, put_row}
use Rattle.sqlite_disk.specs.Disk.{MoreFaults}
use Rattle.sqlite_trees.specs.declared.error.StoreError.{StoreError}
use Rattle.sqlite_trees.specs.declared.error.StoreError.TheVariants.{OutOfMemory, Io, Corrupt, Full, Broken, Unstorable}
use Rattle.sqlite_trees.specs.View.{View, doubt, IsClean, SetsTree, OnlyWrites, KeepsSchema, KeepsCommitted, IsFailure, HasCause, Commits}
use Rattle.ups_store.specs.Rows.{request_row, rows_from, request_in, requests_in_tree, requests_in, table_in, IsNumbered}
use Rattle.ups_store.specs.declared.request.StoredRequest.{StoredRequest}
use Rattle.ups_store.specs.Held.{IsAdding, Adds, Holds, HoldsIfOpen, LeavesOthers}
use Rattle.ups_store.proofs.Tables.{low_from, own_set, table_stays, requests_at, numbered_at}
use Rattle.ups_store.proofs.Rows.{put_last, rows_length, rows_push}

pub on_either : {T E P : Type 0} (r : Result T E) → OnOk r P → IfErr r (λ _. P) → P
on_either (Ok x) ok err = ok
on_either (Err e) ok err = err

-- the rows with one more behind them
grown : (rows : List Row) (k : StoredRequest) (count : ℕ) → rows ≡ rows_from 1 (map request_in rows) → length rows ≡ count → put_row (request_row (pos (count + 1)) k) rows ≡ rows_from 1 (map request_in rows ++ k ∷ [])
grown rows k count numbered counted =
    let ks = map request_in rows in
    let at : count + 1 ≡ 1 + length ks = omega (arith, length-map rows request_in, counted) in
    ap (λ (n : ℕ). put_row (request_row (pos n) k) rows) at ∙ ap (put_row (request_row (pos (1 + length ks)) k)) numbered ∙ put_last 1 ks k

-- what the rows say with one more behind them
said_more : (rows : List Row) (k : StoredRequest) (count : ℕ) → IsNumbered rows → length rows ≡ count → request_in (request_row (pos (count + 1)) k) ≡ k → map request_in (rows_from 1 (map request_in rows ++ k ∷ [])) ≡ map request_in rows ++ k ∷ []
said_more rows k count numbered counted says =
    let ks = map request_in rows in
    let number : 1 + length ks ≡ count + 1 = omega (arith, length-map rows request_in, counted) in
    ap (map request_in) (sym (rows_push 1 ks k) ∙ ap (λ (r : List Row). r ++ request_row (pos (1 + length ks)) k ∷ []) (sym numbered)) ∙ map-push rows (request_row (pos (1 + length ks)) k) ∙ ap (λ (n : ℕ). ks ++ request_in (request_row (pos n) k) ∷ []) number
    ∙ ap (λ (r : StoredRequest). ks ++ r ∷ []) says
  where
    map-push : (xs : List Row) (x : Row) → map request_in (xs ++ x ∷ []) ≡ map request_in xs ++ request_in x ∷ []
    map-push [] x = refl
    map-push (y ∷ xs) x = ap (λ (r : List StoredRequest). request_in y ∷ r) (map-push xs x)

pub adds : (old new : View) (t : ℕ) (k : StoredRequest) (count : ℕ) → IsAdding old t count → request_in (request_row (pos (count + 1)) k) ≡ k → SetsTree old new t (put_row (request_row (pos (count + 1)) k)) → Adds old new t (k ∷ []) count
adds old new t k count was again sets =
    let ks = requests_in_tree old.trees t in
    let rows : new.trees t ≡ rows_from 1 (ks ++ k ∷ []) = own_set old new t _ sets ∙ grown (old.trees t) k count was.numbered was.counted in
    let says : requests_in_tree new.trees t ≡ ks ++ k ∷ [] = ap (map request_in) rows ∙ said_more (old.trees t) k count was.numbered was.counted again in
    record {
      adding = record {
        sound = ap (λ (v : View). v.is_broken) sets.is ∙ was.sound;
        numbered = rows ∙ ap (rows_from 1) (sym says);
        counted = ap length rows ∙ rows_length 1 (ks ++ k ∷ []) ∙ length-last ks k ∙ ap (λ (n : ℕ). n + 1) (length-map (old.trees t) request_in ∙ was.counted);
      };
      more = says;
    }
  where
    length-last : (xs : List StoredRequest) (x : StoredRequest) → length (xs ++ x ∷ []) ≡ length xs + 1
    length-last [] x = refl
    length-last (y ∷ xs) x = omega (arith, length-last xs x)

pub adds_more : (old mid new : View) (t : ℕ) (rs : List StoredRequest) (r : StoredRequest) (count all : ℕ) → all ≡ count + length rs → Adds old mid t rs count → Adds mid new t (r ∷ []) all → Adds old new t (rs ++ r ∷ []) count
adds_more old mid new t rs r count all is first then = record {
  adding = subst (IsAdding new t) (omega (arith, is, length-append rs (r ∷ []))) then.adding;
  more = then.more ∙ ap (λ (xs : List StoredRequest). xs ++ r ∷ []) first.more ∙ append_assoc (requests_in_tree old.trees t) rs (r ∷ []);
}

-- a write leaves what is committed
pub writes_kept : (old new : View) → KeepsSchema old new → (new.is_clean ≡ false → new.is_open ≡ false) → (IsClean new → OnlyWrites old new) → KeepsCommitted old new
unfolding doubt
writes_kept old new schema shut only = go new.is_clean refl
  where
    go : (b : Bool) → new.is_clean ≡ b → KeepsCommitted old new
    go true e =
        let is = only (rw e refl) in
        record {
          shape = schema.shape;
          reals = schema.reals;
          committed_shape = schema.committed_shape;
          committed_reals = schema.committed_reals;
          numbered = schema.numbered;
          was_open = λ h. sym (ap (λ (v : View). v.is_open) is) ∙ h;
          committed = λ h. ap (λ (v : View). v.committed) is;
          marks = λ h. ap (λ (v : View). v.marks) is;
        }
    go false e =
        record {
          shape = schema.shape;
          reals = schema.reals;
          committed_shape = schema.committed_shape;
          committed_reals = schema.committed_reals;
          numbered = schema.numbered;
          was_open = λ h. absurd (true≢false (sym h ∙ shut e));
          committed = λ h. absurd (true≢false (sym h ∙ shut e));
          marks = λ h. absurd (true≢false (sym h ∙ shut e));
        }

pub failed_kept : {T : Type 0} (r : Result T StoreError) (old new : View) → IfErr r (IsFailure old new) → IfErr r (λ _. KeepsCommitted old new)
failed_kept (Ok x) old new h = tt
failed_kept (Err e) old new h = h.kept

pub mapped : {T E A B : Type 0} (r : Result T E) → (A → B) → OnOk r A → OnOk r B
mapped (Ok x) f h = f h
mapped (Err e) f h = tt

pub kept_through : (a b c : View) → KeepsCommitted a b → KeepsCommitted b c → KeepsCommitted a c
kept_through a b c h k = record {
  shape = k.shape ∙ h.shape;
  reals = k.reals ∙ h.reals;
  committed_shape = k.committed_shape ∙ h.committed_shape;
  committed_reals = k.committed_reals ∙ h.committed_reals;
  numbered = k.numbered ∙ h.numbered;
  was_open = λ e. h.was_open (k.was_open e);
  committed = λ e. k.committed e ∙ h.committed (k.was_open e);
  marks = λ e. k.marks e ∙ h.marks (k.was_open e);
}

pub schema_through : (a b c : View) → KeepsSchema a b → KeepsSchema b c → KeepsSchema a c
schema_through a b c h k = record { shape = k.shape ∙ h.shape; reals = k.reals ∙ h.reals; committed_shape = k.committed_shape ∙ h.committed_shape; committed_reals = k.committed_reals ∙ h.committed_reals; numbered = k.numbered ∙ h.numbered }

pub clean_before : (a b : View) → doubt a.is_clean ≤ doubt b.is_clean → IsClean b → IsClean a
clean_before a b h clean = omega (arith, h, clean)

pub adding_as : (a b : View) (t count : ℕ) → IsAdding a t count → b.is_broken ≡ false → b.trees ≡ a.trees → IsAdding b t count
adding_as a b t count h sound same = record {
  sound = sound;
  numbered = subst (λ (db : Trees). IsNumbered (db t)) (sym same) h.numbered;
  counted = subst (λ (db : Trees). length (db t) ≡ count) (sym same) h.counted;
}

pub held_committed : (old mid new : View) (t was count : ℕ) → HoldsIfOpen old t was → IsTrue old.is_open → KeepsSchema old mid → table_in mid.trees ≡ table_in old.trees → IsAdding mid t count → Commits mid new → Holds new t count
held_committed old mid new t was count held up schema stays adding done =
    let h = held up in
    let tables = h.has.tables in
    let is = done.is in
    record {
      has = record {
        tables = record {
          requests = ap (λ (v : View). v.shape 0) is ∙ ap (λ (f : ℕ → Shape). f 0) schema.shape ∙ tables.requests;
          runs = ap (λ (v : View). v.shape 1) is ∙ ap (λ (f : ℕ → Shape). f 1) schema.shape ∙ tables.runs;
          alike = ap (λ (v : View). v.committed_shape) is ∙ sym (ap (λ (v : View). v.shape) is);
          numbered = ap (λ (v : View). v.is_numbered) is ∙ schema.numbered ∙ tables.numbered;
          unreal = ap (λ (v : View). v.reals 1) is ∙ ap (λ (f : ℕ → ℕ). f 1) schema.reals ∙ tables.unreal;
          first_unreal = ap (λ (v : View). v.reals 0) is ∙ ap (λ (f : ℕ → ℕ). f 0) schema.reals ∙ tables.first_unreal;
          last_unreal = ap (λ (v : View). v.reals 2) is ∙ ap (λ (f : ℕ → ℕ). f 2) schema.reals ∙ tables.last_unreal;
          typed = ap (λ (v : View). v.committed_reals) is ∙ sym (ap (λ (v : View). v.reals) is);
        };
        shaped = ap (λ (v : View). v.shape t) is ∙ ap (λ (f : ℕ → Shape). f t) schema.shape ∙ h.has.shaped;
      };
      tabled = ap (λ (v : View). table_in v.trees) is ∙ stays ∙ h.tabled;
      adding = adding_as mid new t count adding (ap (λ (v : View). v.is_broken) is ∙ done.sound) (ap (λ (v : View). v.trees) is);
      same = ap (λ (v : View). v.trees) is ∙ sym (ap (λ (v : View). v.committed) is);
    }

pub not_both : (b : Bool) → b ≡ false → IsTrue b → ⊥
not_both b down up = true≢false (sym up ∙ down)

-- a store that is sound is clean and open
pub sound_open : (v : View) → (v.is_open ≡ false → IsTrue v.is_broken) → v.is_broken ≡ false → IsTrue v.is_open
sound_open v broken sound = go v.is_open refl
  where
    go : (b : Bool) → v.is_open ≡ b → IsTrue v.is_open
    go true e = e
    go false e = absurd (not_both v.is_broken sound (broken e))

pub open_clean : (v : View) → (v.is_clean ≡ false → v.is_open ≡ false) → IsTrue v.is_open → IsClean v
unfolding doubt
open_clean v shut up = go v.is_clean refl
  where
    go : (b : Bool) → v.is_clean ≡ b → IsClean v
    go true e = rw e refl
    go false e = absurd (not_both v.is_open (shut e) up)

-- what a transaction that adds requests would commit
pub says_added : (old mid : View) (t count : ℕ) (more : List StoredRequest) → Holds old t count → Adds old mid t more count → LeavesOthers old mid t → (requests_in mid.trees ≡ requests_in old.committed ++ more) × IsNumbered (mid.trees (table_in mid.trees))
says_added old mid t count more h added others =
    let tabled : table_in mid.trees ≡ t = table_stays old mid t (low_from _ t h.tabled) others ∙ h.tabled in (
      requests_at mid.trees t tabled ∙ added.more ∙ ap (λ (rs : List StoredRequest). rs ++ more) (sym (requests_at old.trees t h.tabled)) ∙ ap (λ (db : Trees). requests_in db ++ more) h.same,
      numbered_at mid.trees t tabled added.adding.numbered,
    )

-- a cause of a step is one of all, where the step began sound
pub later_cause : (old mid : View) (first then last : ℕ) (Some_large All_large : Type 0) (e : StoreError) → first ≤ then → mid.is_broken ≡ false → (Some_large → All_large) → HasCause mid (MoreFaults then last) Some_large e → HasCause old (MoreFaults first last) All_large e
later_cause old mid first then last A B OutOfMemory below sound large cause = tt
later_cause old mid first then last A B Io below sound large cause = omega (arith, cause, below)
later_cause old mid first then last A B Corrupt below sound large cause = omega (arith, cause, below)
later_cause old mid first then last A B Full below sound large cause = omega (arith, cause, below)
later_cause old mid first then last A B Broken below sound large cause = absurd (not_both mid.is_broken sound cause)
later_cause old mid first then last A B Unstorable below sound large cause = large cause
