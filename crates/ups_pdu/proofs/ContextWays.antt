-- There is one way to read presentation contexts.
use Rattle.std.proofs.Common.{◌≡◌, ℕ, List, [], ◌∷◌, Option, refl, sym, subst, ◌∙◌}
use Rattle.std.specs.Option.{option_to_list}
use Rattle.ups_pdu.specs.declared.associate.ContextAnswer.{ContextAnswer}
use Rattle.ups_pdu.specs.declared.associate.ContextAnswer.TheVariants.{Accepted, Refused}
use Rattle.ups_pdu.specs.declared.associate.AnsweredContext.{AnsweredContext}
use Rattle.ups_pdu.specs.declared.associate.ProposedContext.{ProposedContext}
use Rattle.ups_pdu.specs.declared.context.ProposedHead.{ProposedHead}
use Rattle.ups_pdu.specs.Each.{Each}
use Rattle.ups_pdu.specs.Identifier.{SpellsUid}
use Rattle.ups_pdu.specs.Item.{Item, IsItem, contents, EachSpells, HasContents}
use Rattle.ups_pdu.specs.Context.{IsContextHead, AreSyntaxes, IsProposedContext, IsProposedHead, SpellsProposedContext, IsAnswer, AnswersBy, SpellsAnsweredContext}
use Rattle.ups_pdu.proofs.Sequence.{each_one}
use Rattle.ups_pdu.proofs.ItemWays.{item_way}
use Rattle.ups_pdu.proofs.Contents.{one_each, some_contents, some_things}
use Rattle.ups_pdu.proofs.UserWays.{one_uid}

pub one_context : (content : List ℕ) (i j a b : ℕ) (t u : List ℕ) → IsContextHead content i a t → IsContextHead content j b u → (i ≡ j) × (a ≡ b) × (t ≡ u)
one_context content i j a b t u p q =
    let e : i ∷ p.second ∷ a ∷ p.fourth ∷ t ≡ j ∷ q.second ∷ b ∷ q.fourth ∷ u = sym p.parts ∙ q.parts in
    let first : i ≡ j = cc in
    let third : a ≡ b = cc in
    let rest : t ≡ u = cc in
    (first, third, rest)

pub syntaxes_at : (content : List ℕ) (i a : ℕ) (text : List ℕ) → IsContextHead content i a text → (id : ℕ) (uid : List ℕ) (uids : List (List ℕ)) → IsProposedContext content id uid uids → AreSyntaxes text uid uids
syntaxes_at content i a text h id uid uids s =
    let same = one_context content id i s.reserved a s.text text s.head h in
    subst (λ (t : List ℕ). AreSyntaxes t uid uids) same.2 s.syntaxes

pub answer_at : (content : List ℕ) (i a : ℕ) (text : List ℕ) → IsContextHead content i a text → (x : AnsweredContext) → SpellsAnsweredContext content x → AnswersBy text a x.answer
answer_at content i a text h x s =
    let same = one_context content x.id i s.outcome a s.text text s.head h in
    subst (λ (t : List ℕ). AnswersBy t a x.answer) same.2 (subst (λ (n : ℕ). AnswersBy s.text n x.answer) same.1 s.answer)

-- a proposed head with transfer syntaxes that were read again
pub context_again : (content : List ℕ) (head : ProposedHead) → IsProposedHead content head → (i a : ℕ) (text : List ℕ) → IsContextHead content i a text → (uids : List (List ℕ))
    → ((found : List (List ℕ)) → HasContents 0x40 text found → (us : List (List ℕ)) → EachSpells SpellsUid found us → EachSpells SpellsUid found uids) → IsProposedContext content head.id head.abstract_syntax uids
context_again content head h i a text is uids again =
    let same = one_context content head.id i h.is.reserved a h.is.text text h.is.head is in
    let s = h.is.syntaxes in
    let found = contents 0x40 s.items in
    let has : HasContents 0x40 text found = subst (λ (t : List ℕ). HasContents 0x40 t found) same.2 (record { items = s.items; each = s.each; are = refl }) in
    let new = again found has h.transfer_syntaxes s.transfer_syntaxes in
    record {
      reserved = h.is.reserved;
      text = h.is.text;
      head = h.is.head;
      syntaxes = record {
        items = s.items;
        each = s.each;
        only = s.only;
        abstract_syntax = s.abstract_syntax;
        transfer_syntaxes = new;
        some = some_things SpellsUid found uids new (some_contents SpellsUid found h.transfer_syntaxes s.transfer_syntaxes s.some);
      };
    }

pub head_of : {A : Type 0} (content : List ℕ) (context : ProposedContext A) → SpellsProposedContext content context → (head : ProposedHead) × IsProposedHead content head
head_of content context s = (record { id = context.id; abstract_syntax = context.abstract_syntax }, record { transfer_syntaxes = context.transfer_syntaxes; is = s })

pub context_of : (A : Type 0) (content : List ℕ) (head : ProposedHead) → IsProposedHead content head → (context : ProposedContext A) × SpellsProposedContext content context
context_of A content head h = (record { id = head.id; abstract_syntax = head.abstract_syntax; transfer_syntaxes = h.transfer_syntaxes }, h.is)

-- an answer that refuses has one content at most
pub refused_content : (outcome : ℕ) (found : List (List ℕ)) (answer : ContextAnswer) → IsAnswer outcome found answer → (outcome ≡ 0 → ⊥) → (c : Option (List ℕ)) × (found ≡ option_to_list c)
refused_content outcome found (Accepted uid) s ne = absurd (ne s.0)
refused_content outcome found (Refused result) s ne = (s.2, s.3)

same_items : (text : List ℕ) (xs ys : List Item) → Each IsItem text xs → Each IsItem text ys → xs ≡ ys
same_items text xs ys s t = each_one IsItem item_way text xs ys s t

pub one_proposed : {A : Type 0} (content : List ℕ) (a b : ProposedContext A) → SpellsProposedContext content a → SpellsProposedContext content b → a ≡ b
one_proposed content a b s t =
    let same = one_context content a.id b.id s.reserved t.reserved s.text t.text s.head t.head in
    let other = subst (λ (x : List ℕ). AreSyntaxes x a.abstract_syntax a.transfer_syntaxes) same.2 s.syntaxes in
    let items = same_items t.text other.items t.syntaxes.items other.each t.syntaxes.each in
    let uid = subst (λ (l : List Item). EachSpells SpellsUid (contents 0x30 l) (a.abstract_syntax ∷ [])) items other.abstract_syntax in
    let uids = subst (λ (l : List Item). EachSpells SpellsUid (contents 0x40 l) a.transfer_syntaxes) items other.transfer_syntaxes in
    let first : a.abstract_syntax ∷ [] ≡ b.abstract_syntax ∷ [] = one_each SpellsUid one_uid (contents 0x30 t.syntaxes.items) (a.abstract_syntax ∷ []) (b.abstract_syntax ∷ []) uid t.syntaxes.abstract_syntax in
    let abstract_same : a.abstract_syntax ≡ b.abstract_syntax = cc in
    let transfer_same : a.transfer_syntaxes ≡ b.transfer_syntaxes = one_each SpellsUid one_uid (contents 0x40 t.syntaxes.items) a.transfer_syntaxes b.transfer_syntaxes uids t.syntaxes.transfer_syntaxes in
    λ i. record { id = same.0 i; abstract_syntax = abstract_same i; transfer_syntaxes = transfer_same i }

one_answer : (outcome : ℕ) (found : List (List ℕ)) (a b : ContextAnswer) → IsAnswer outcome found a → IsAnswer outcome found b → a ≡ b
one_answer outcome found (Accepted u) (Accepted v) s t = let e : u ∷ [] ≡ v ∷ [] = one_each SpellsUid one_uid found (u ∷ []) (v ∷ []) s.1 t.1 in cc
one_answer outcome found (Accepted u) (Refused r) s t = absurd (t.1 (sym t.0 ∙ s.0))
one_answer outcome found (Refused r) (Accepted u) s t = absurd (s.1 (sym s.0 ∙ t.0))
one_answer outcome found (Refused r) (Refused q) s t = let e : r ≡ q = sym s.0 ∙ t.0 in cc

pub one_answered : (content : List ℕ) (a b : AnsweredContext) → SpellsAnsweredContext content a → SpellsAnsweredContext content b → a ≡ b
one_answered content a b s t =
    let same = one_context content a.id b.id s.outcome t.outcome s.text t.text s.head t.head in
    let other = answer_at content b.id t.outcome t.text t.head a s in
    let items = same_items t.text other.items t.answer.items other.each t.answer.each in
    let is = subst (λ (l : List Item). IsAnswer t.outcome (contents 0x40 l) a.answer) items other.is in
    let answer = one_answer t.outcome (contents 0x40 t.answer.items) a.answer b.answer is t.answer.is in
    λ i. record { id = same.0 i; answer = answer i }
