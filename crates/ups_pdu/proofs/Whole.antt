-- There is one PDU at the front of bytes, and no fault where there is one.
use Rattle.std.proofs.Common.{◌≡◌, ℕ, ◌≤◌, inl, inr, List, [], ◌∷◌, ◌++◌, length, take, drop, cond, eqb, Result, Ok, Err, MatchResult, IfOk, refl, sym, ap, subst, ◌∙◌, arith, append_assoc}
use Rattle.std.specs.Int.{w32, to_be_bytes}
use Rattle.std.proofs.lemmas.List.{append-nil, take_at, take-append-drop, length-append, length-take}
use Rattle.ups_pdu.specs.declared.fault.PduFault.{PduFault}
use Rattle.ups_pdu.specs.declared.fault.PduFault.TheVariants.{Short, UnknownType, BadLength, BadItem, TooLong, Memory}
use Rattle.ups_pdu.specs.declared.pdu.Pdu.{Pdu}
use Rattle.ups_pdu.specs.declared.pdu.Pdu.TheVariants.{AssociateRq, AssociateAc, AssociateRj, Data, ReleaseRq, ReleaseRp, Abort}
use Rattle.ups_pdu.specs.declared.kind.PduKind.{PduKind}
use Rattle.ups_pdu.specs.declared.kind.PduKind.TheVariants as kinds
use Rattle.ups_pdu.specs.Fragment.{SpellsPdv}
use Rattle.ups_pdu.specs.Header.{type_code, limit, IsHeader, IsWhole}
use Rattle.ups_pdu.specs.Lengths.{LengthsFill}
use Rattle.ups_pdu.specs.Spelling.{IsBody, IsFront, SpellsPdu, IsFault}
use Rattle.ups_pdu.proofs.Parts.{same_parts, same_be_4}
use Rattle.ups_pdu.proofs.Sequence.{each_one}
use Rattle.ups_pdu.proofs.FragmentWays.{pdv_way, fills_from_pdvs}
use Rattle.ups_pdu.proofs.AssociationWays.{one_rq, one_ac}
use Rattle.ups_pdu.proofs.AssociationFills.{fills_from_rq, fills_from_ac}

-- the type that a type byte stands for
kind_at : ℕ → PduKind
kind_at n =
    cond (eqb n 1) kinds.AssociateRq
    (cond (eqb n 2) kinds.AssociateAc
    (cond (eqb n 3) kinds.AssociateRj
    (cond (eqb n 4) kinds.Data
    (cond (eqb n 5) kinds.ReleaseRq
    (cond (eqb n 6) kinds.ReleaseRp kinds.Abort)))))

kind_at-code : (k : PduKind) → kind_at (type_code k) ≡ k
unfolding kind_at
kind_at-code kinds.AssociateRq = refl
kind_at-code kinds.AssociateAc = refl
kind_at-code kinds.AssociateRj = refl
kind_at-code kinds.Data = refl
kind_at-code kinds.ReleaseRq = refl
kind_at-code kinds.ReleaseRp = refl
kind_at-code kinds.Abort = refl

one_kind : (k j : PduKind) → type_code k ≡ type_code j → k ≡ j
one_kind k j e = sym (kind_at-code k) ∙ ap kind_at e ∙ kind_at-code j

pub one_header : (bytes : List ℕ) (a b m n : ℕ) (x y : List ℕ) → IsHeader bytes a m x → IsHeader bytes b n y → (a ≡ b) × (m ≡ n) × (x ≡ y)
one_header bytes a b m n x y p q =
    let e : a ∷ p.reserved ∷ to_be_bytes w32 m ++ x ≡ b ∷ q.reserved ∷ to_be_bytes w32 n ++ y = sym p.parts ∙ q.parts in
    let first : a ≡ b = cc in
    let later : to_be_bytes w32 m ++ x ≡ to_be_bytes w32 n ++ y = cc in
    let parts = same_parts (to_be_bytes w32 m) (to_be_bytes w32 n) x y refl later in
    (first, same_be_4 m n p.fits q.fits parts.0, parts.1)

pub one_whole : (bytes : List ℕ) (k j : PduKind) (b d x y : List ℕ) → IsWhole bytes k b x → IsWhole bytes j d y → (k ≡ j) × (b ≡ d) × (x ≡ y)
one_whole bytes k j b d x y p q =
    let h = one_header bytes (type_code k) (type_code j) (length b) (length d) (b ++ x) (d ++ y) p.header q.header in
    let parts = same_parts b d x y h.1 h.2 in
    (one_kind k j h.0, parts.0, parts.1)

one_body : {A : Type 0} (k : PduKind) (body : List ℕ) (p q : Pdu A) → IsBody k body p → IsBody k body q → p ≡ q
one_body k body (AssociateRq a) (AssociateRq b) s t = ap AssociateRq (one_rq body a b s.1 t.1)
one_body k body (AssociateAc a) (AssociateAc b) s t = ap AssociateAc (one_ac body a b s.1 t.1)
one_body k body (AssociateRj a b c) (AssociateRj x y z) (_, r, e) (_, s, f) =
    let same : r ∷ a ∷ b ∷ c ∷ [] ≡ s ∷ x ∷ y ∷ z ∷ [] = sym e ∙ f in cc
one_body {A} k body (Data ps) (Data qs) s t = ap Data (each_one (SpellsPdv {A = A}) (pdv_way A) body ps qs s.1.each t.1.each)
one_body k body ReleaseRq ReleaseRq s t = refl
one_body k body ReleaseRp ReleaseRp s t = refl
one_body k body (Abort b c) (Abort y z) (_, q, r, e) (_, s, t, f) =
    let same : q ∷ r ∷ b ∷ c ∷ [] ≡ s ∷ t ∷ y ∷ z ∷ [] = sym e ∙ f in cc
one_body k body p q s t = absurd cc

pub one_front : {A : Type 0} (bytes : List ℕ) (p q : Pdu A) (m n : ℕ) → IsFront bytes p m → IsFront bytes q n → (p ≡ q) × (m ≡ n)
one_front bytes p q m n f g =
    let w = one_whole bytes g.kind f.kind g.body f.body g.rest f.rest g.whole f.whole in
    let t : IsBody f.kind f.body q = subst (λ (b : List ℕ). IsBody f.kind b q) w.1 (subst (λ (k : PduKind). IsBody k g.body q) w.0 g.spelled) in
    let len : length g.body ≡ length f.body = ap length w.1 in
    (one_body f.kind f.body p q f.spelled t, omega (arith, f.taken, g.taken, len))

pub one_pdu : {A : Type 0} (bytes : List ℕ) (p q : Pdu A) → SpellsPdu bytes p → SpellsPdu bytes q → p ≡ q
one_pdu bytes p q s t =
    let w = one_whole bytes t.kind s.kind t.body s.body [] [] t.whole s.whole in
    one_body s.kind s.body p q s.spelled (subst (λ (b : List ℕ). IsBody s.kind b q) w.1 (subst (λ (k : PduKind). IsBody k t.body q) w.0 t.spelled))

-- what a body spells, its lengths fill
fills_from_body : {A : Type 0} (k : PduKind) (body : List ℕ) (p : Pdu A) → IsBody k body p → LengthsFill k body
fills_from_body k body (AssociateRq a) s = rw s.0 (fills_from_rq body a s.1)
fills_from_body k body (AssociateAc a) s = rw s.0 (fills_from_ac body a s.1)
fills_from_body k body (AssociateRj a b c) (e, r, f) = rw (e, f) refl
fills_from_body k body (Data ps) s = rw s.0 (fills_from_pdvs body ps s.1.each)
fills_from_body k body ReleaseRq (e, s) = rw e s
fills_from_body k body ReleaseRp (e, s) = rw e s
fills_from_body k body (Abort a b) (e, q, r, f) = rw (e, f) refl

-- where a PDU stands there is no fault but lack of memory
no_fault : {A : Type 0} (bytes : List ℕ) (p : Pdu A) (n : ℕ) (fault : PduFault) → IsFront bytes p n → IsFault A bytes fault → fault ≡ Memory
no_fault bytes p n Short f (inl short) = absurd (omega (arith, ap length f.whole.header.parts))
no_fault bytes p n Short f (inr (k, len, rest, h, within, short)) =
    let same = one_header bytes (type_code k) (type_code f.kind) len (length f.body) rest (f.body ++ f.rest) h f.whole.header in
    absurd (omega (arith, same.1, ap length same.2, length-append f.body f.rest))
no_fault bytes p n UnknownType f (byte, len, rest, h, unknown) =
    let same = one_header bytes byte (type_code f.kind) len (length f.body) rest (f.body ++ f.rest) h f.whole.header in
    absurd (unknown f.kind (sym same.0))
no_fault bytes p n TooLong f (k, len, rest, h, long) =
    let same = one_header bytes (type_code k) (type_code f.kind) len (length f.body) rest (f.body ++ f.rest) h f.whole.header in
    let kind : k ≡ f.kind = one_kind k f.kind same.0 in
    absurd (omega (arith, same.1, ap limit kind, f.whole.within))
no_fault bytes p n BadLength f (k, body, rest, whole, unfilled) =
    let w = one_whole bytes f.kind k f.body body f.rest rest f.whole whole in
    let filled = fills_from_body f.kind f.body p f.spelled in
    absurd (unfilled (subst (λ (b : List ℕ). LengthsFill k b) w.1 (subst (λ (j : PduKind). LengthsFill j f.body) w.0 filled)))
no_fault bytes p n BadItem f (k, body, rest, whole, filled, none) =
    let w = one_whole bytes f.kind k f.body body f.rest rest f.whole whole in
    absurd (none p (subst (λ (b : List ℕ). IsBody k b p) w.1 (subst (λ (j : PduKind). IsBody j f.body p) w.0 f.spelled)))
no_fault bytes p n Memory f h = refl

-- the first n bytes are a PDU exactly where it stands at the front
pub front_from_spelled : {A : Type 0} (bytes : List ℕ) (p : Pdu A) (n : ℕ) → n ≤ length bytes → SpellsPdu (take n bytes) p → IsFront bytes p n
front_from_spelled bytes p n le s = record {
  kind = s.kind;
  body = s.body;
  rest = drop n bytes;
  whole = record {
    header = record {
      reserved = s.whole.header.reserved;
      fits = s.whole.header.fits;
      parts = sym (take-append-drop n bytes) ∙ ap (λ (w : List ℕ). w ++ drop n bytes) s.whole.header.parts ∙ simp append-nil;
    };
    within = s.whole.within;
  };
  spelled = s.spelled;
  taken = omega (arith, ap length s.whole.header.parts, length-take n bytes, length-append s.body []);
}

pub spelled_from_front : {A : Type 0} (bytes : List ℕ) (p : Pdu A) (n : ℕ) → IsFront bytes p n → (n ≤ length bytes) × SpellsPdu (take n bytes) p
spelled_from_front bytes p n f =
    let text : List ℕ = type_code f.kind ∷ f.whole.header.reserved ∷ to_be_bytes w32 (length f.body) ++ f.body in
    let cut : bytes ≡ text ++ f.rest = f.whole.header.parts ∙ simp append_assoc in
    let len : length text ≡ n = omega (arith, f.taken) in
    let front : take n bytes ≡ text = ap (take n) cut ∙ take_at text f.rest n len in (
      omega (arith, ap length cut, length-append text f.rest),
      record {
        kind = f.kind;
        body = f.body;
        whole = record {
          header = record {
            reserved = f.whole.header.reserved;
            fits = f.whole.header.fits;
            parts = front ∙ ap (λ (w : List ℕ). type_code f.kind ∷ f.whole.header.reserved ∷ to_be_bytes w32 (length f.body) ++ w) (sym (append-nil f.body));
          };
          within = f.whole.within;
        };
        spelled = f.spelled;
      },
    )

pub only_front : {A : Type 0} (bytes : List ℕ) (r : Result (Pdu A × ℕ) PduFault) → MatchResult r (λ x. IsFront bytes x.0 x.1) (IsFault A bytes) → (p : Pdu A) (n : ℕ) → IsFront bytes p n → MatchResult r (λ x. x ≡ (p, n)) (λ e. e ≡ Memory)
only_front bytes (Ok x) h p n f = let same = one_front bytes x.0 p x.1 n h f in λ i. (same.0 i, same.1 i)
only_front bytes (Err e) h p n f = no_fault bytes p n e f h

pub found_front : {A : Type 0} (bytes : List ℕ) (r : Result (Pdu A × ℕ) PduFault) → MatchResult r (λ x. IsFront bytes x.0 x.1) (IsFault A bytes) → IfOk r (λ x. (x.1 ≤ length bytes) × SpellsPdu (take x.1 bytes) x.0)
found_front bytes (Ok x) h = spelled_from_front bytes x.0 x.1 h
found_front bytes (Err e) h = tt
