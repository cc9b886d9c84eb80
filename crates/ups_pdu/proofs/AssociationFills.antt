-- What an association PDU spells, its lengths fill.
use Rattle.std.proofs.Common.{◌≡◌, ℕ, ◌≤◌, Bool, true, false, cond, List, [], ◌∷◌, ◌++◌, length, drop, refl, sym, ap, subst, ◌∙◌, arith, append_assoc}
use Rattle.std.specs.Prelude.{◌==◌}
use Rattle.std.specs.Bool.{MatchBool}
use Rattle.std.specs.Int.{w16, to_be_bytes}
use Rattle.std.proofs.lemmas.List.{length-append, drop_at}
use Rattle.ups_pdu.specs.declared.associate.AssociateRq.{AssociateRq}
use Rattle.ups_pdu.specs.declared.associate.AssociateAc.{AssociateAc}
use Rattle.ups_pdu.specs.declared.associate.UserInformation.{UserInformation}
use Rattle.ups_pdu.specs.Each.{Each}
use Rattle.ups_pdu.specs.Item.{Item, IsItem, contents, EachSpells}
use Rattle.ups_pdu.specs.UserItems.{IsRole, SpellsUserInformation, SpellsRole}
use Rattle.ups_pdu.specs.Context.{IsContextHead, SpellsProposedContext, SpellsAnsweredContext}
use Rattle.ups_pdu.specs.Association.{IsAssociateHead, AreAssociateItems, SpellsAssociateRq, SpellsAssociateAc}
use Rattle.ups_pdu.specs.Lengths.{IsFilledItem, AreFilled, AnyContent, UserItemFills, ContextFills, AssociationItemFills}
use Rattle.ups_pdu.proofs.Filling.{filled_from_items}

abbrev Chosen : ℕ → (List ℕ → Type 0) → (ℕ → List ℕ → Type 0) → ℕ → List ℕ → Type 0
Chosen kind Fills Else k c = MatchBool (k == kind) (Fills c) (Else k c)

abbrev with_first : Bool → List ℕ → List (List ℕ) → List (List ℕ)
with_first b content others = cond b (content ∷ others) others

-- an item in front of filled items
fills_first : {X : Type 0} (Spells : List ℕ → X → Type 0) (Fills : List ℕ → Type 0) → ((content : List ℕ) (x : X) → Spells content x → Fills content) → (kind : ℕ) (Else : ℕ → List ℕ → Type 0) (bytes rest : List ℕ) (i : Item) (items : List Item)
    → IsFilledItem Else bytes i rest → ((xs : List X) → EachSpells Spells (contents kind items) xs → Each (IsFilledItem (Chosen kind Fills Else)) rest items)
    → (b : Bool) → (i.kind == kind) ≡ b → (xs : List X) → EachSpells Spells (with_first b i.content (contents kind items)) xs → Each (IsFilledItem (Chosen kind Fills Else)) bytes (i ∷ items)
fills_first Spells Fills filled kind Else bytes rest i items first others true e [] s = absurd s
fills_first Spells Fills filled kind Else bytes rest i items first others true e (x ∷ xs) s =
    (rest, record { is = first.is; filled = subst (λ (b : Bool). MatchBool b (Fills i.content) (Else i.kind i.content)) (sym e) (filled i.content x s.0) }, others xs s.1)
fills_first Spells Fills filled kind Else bytes rest i items first others false e xs s =
    (rest, record { is = first.is; filled = subst (λ (b : Bool). MatchBool b (Fills i.content) (Else i.kind i.content)) (sym e) first.filled }, others xs s)

-- each content of a type is filled where something spells it
fills_each : {X : Type 0} (Spells : List ℕ → X → Type 0) (Fills : List ℕ → Type 0) → ((content : List ℕ) (x : X) → Spells content x → Fills content) → (kind : ℕ) (Else : ℕ → List ℕ → Type 0) (bytes : List ℕ) (items : List Item)
    → Each (IsFilledItem Else) bytes items → (xs : List X) → EachSpells Spells (contents kind items) xs → Each (IsFilledItem (Chosen kind Fills Else)) bytes items
fills_each Spells Fills filled kind Else bytes [] e xs s = e
fills_each Spells Fills filled kind Else bytes (i ∷ is) (r, first, more) xs s =
    fills_first Spells Fills filled kind Else bytes r i is first (λ ys t. fills_each Spells Fills filled kind Else r is more ys t) (i.kind == kind) refl xs s

user_fills : {A : Type 0} (content : List ℕ) (info : UserInformation A) → SpellsUserInformation content info → AreFilled UserItemFills content
user_fills content info s =
    (s.items, fills_each SpellsRole (λ c. (text : List ℕ) × (scu : ℕ) × (scp : ℕ) × IsRole c text scu scp) (λ c r t. (t.text, r.scu, r.scp, t.is)) 0x54 AnyContent content s.items (filled_from_items content s.items s.each) info.roles s.each_role)

context_fills : (content : List ℕ) (id outcome : ℕ) (text : List ℕ) (h : IsContextHead content id outcome text) (items : List Item) → Each IsItem text items → ContextFills content
context_fills content id outcome text h items each =
    let e : text ≡ drop 4 content = sym (ap (drop 4) h.parts) in
    (omega (arith, ap length h.parts), (items, subst (λ (t : List ℕ). Each (IsFilledItem AnyContent) t items) e (filled_from_items text items each)))

-- the items of an association PDU, with the user information and the contexts filled
items_fill : {A X : Type 0} (kind : ℕ) (S : List ℕ → X → Type 0) (text uid user : List ℕ) (xs : List X) → ((content : List ℕ) (x : X) → S content x → ContextFills content) → (s : AreAssociateItems kind S text uid xs user)
    → (info : UserInformation A) → SpellsUserInformation user info → AreFilled (AssociationItemFills kind) text
items_fill {A} kind S text uid user xs filled s info spelled =
    let one = subst (λ (l : List (List ℕ)). EachSpells (SpellsUserInformation {A = A}) l (info ∷ [])) (sym s.user_information) (spelled, tt) in
    let first = fills_each (SpellsUserInformation {A = A}) (AreFilled UserItemFills) user_fills 0x50 AnyContent text s.items (filled_from_items text s.items s.each) (info ∷ []) one in
    (s.items, fills_each S ContextFills filled kind (λ k c. MatchBool (k == 0x50) (AreFilled UserItemFills c) (Unit {0})) text s.items first xs s.each_context)

behind_head : (body : List ℕ) (version : ℕ) (called calling text : List ℕ) → IsAssociateHead body version called calling text → (68 ≤ length body) × (text ≡ drop 68 body)
behind_head body version called calling text h =
    let front : List ℕ = to_be_bytes w16 version ++ (h.first ++ (called ++ (calling ++ h.reserved))) in
    let whole : body ≡ front ++ text = h.parts ∙ simp append_assoc in
    let len : length front ≡ 68 = omega (arith, length-append h.first (called ++ (calling ++ h.reserved)), length-append called (calling ++ h.reserved), length-append calling h.reserved, h.first_fits, h.called_fits, h.calling_fits, h.reserved_fits) in
    (omega (arith, ap length whole, length-append front text), sym (ap (drop 68) whole ∙ drop_at front text 68 len))

pub fills_from_rq : {A : Type 0} (body : List ℕ) (rq : AssociateRq A) → SpellsAssociateRq body rq → (68 ≤ length body) × AreFilled (AssociationItemFills 0x20) (drop 68 body)
fills_from_rq {A} body rq s =
    let b = behind_head body rq.protocol_version rq.called rq.calling s.text s.head in (
      b.0,
      subst (λ (t : List ℕ). AreFilled (AssociationItemFills 0x20) t) b.1
          (items_fill 0x20 (SpellsProposedContext {A = A}) s.text rq.application_context s.user rq.contexts (λ content x t. context_fills content x.id t.reserved t.text t.head t.syntaxes.items t.syntaxes.each) s.items rq.user_information s.user_information),
    )

pub fills_from_ac : {A : Type 0} (body : List ℕ) (ac : AssociateAc A) → SpellsAssociateAc body ac → (68 ≤ length body) × AreFilled (AssociationItemFills 0x21) (drop 68 body)
fills_from_ac {A} body ac s =
    let b = behind_head body ac.protocol_version ac.called ac.calling s.text s.head in (
      b.0,
      subst (λ (t : List ℕ). AreFilled (AssociationItemFills 0x21) t) b.1
          (items_fill 0x21 SpellsAnsweredContext s.text ac.application_context s.user ac.contexts (λ content x t. context_fills content x.id t.outcome t.text t.head t.answer.items t.answer.each) s.items ac.user_information s.user_information),
    )
