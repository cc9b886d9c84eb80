-- How long the written spelling is, and that what is spelled can be written where it is short.
use Rattle.std.proofs.Common.{◌≡◌, ◌≢◌, ℕ, ◌+◌, ◌*◌, ◌<◌, ◌≤◌, ◌^◌, Bool, true, false, cond, List, [], ◌∷◌, ◌++◌, length, take, replicate, refl, sym, ap, subst, arith}
use Rattle.std.specs.Prelude.{◌==◌}
use Rattle.std.specs.List.{flat_map, AllByRecursion}
use Rattle.std.specs.Option.{option_to_list}
use Rattle.std.proofs.lemmas.List.{length-append, length-take}
use Rattle.std.proofs.lemmas.Nat.{mul-le}
use Rattle.std.proofs.lemmas.Bool.Decides.{nat_tests}
use Rattle.ups_pdu.specs.declared.pdu.Pdu.{Pdu}
use Rattle.ups_pdu.specs.declared.pdu.Pdu.TheVariants.{AssociateRq, AssociateAc, AssociateRj, Data, ReleaseRq, ReleaseRp, Abort}
use Rattle.ups_pdu.specs.declared.associate.UserInformation.{UserInformation}
use Rattle.ups_pdu.specs.declared.associate.ProposedContext.{ProposedContext}
use Rattle.ups_pdu.specs.declared.associate.AnsweredContext.{AnsweredContext}
use Rattle.ups_pdu.specs.declared.associate.ContextAnswer.{ContextAnswer}
use Rattle.ups_pdu.specs.declared.associate.ContextAnswer.TheVariants.{Accepted, Refused}
use Rattle.ups_pdu.specs.declared.associate.AsynchronousWindow.{AsynchronousWindow}
use Rattle.ups_pdu.specs.declared.associate.Role.{Role}
use Rattle.ups_pdu.specs.Each.{Each}
use Rattle.ups_pdu.specs.Identifier.{SpellsUid}
use Rattle.ups_pdu.specs.Item.{Item, IsItem, contents, EachSpells}
use Rattle.ups_pdu.specs.Context.{SpellsProposedContext, IsAnswer, SpellsAnsweredContext}
use Rattle.ups_pdu.specs.UserItems.{SpellsUserInformation, SpellsWindow, SpellsRole}
use Rattle.ups_pdu.specs.Association.{IsAssociateHead, AreAssociateItems}
use Rattle.ups_pdu.specs.Spelling.{SpellsPdu}
use Rattle.ups_pdu.specs.Written.{written_item, proposed_content, syntax_of, answered_content, window_content, role_content, user_content, associate_head, associate_items}
use Rattle.ups_pdu.specs.Fits.{Fits, IsWithin}
use Rattle.ups_pdu.proofs.Fitting.{fits_from_spelled}
use Rattle.ups_pdu.proofs.UidText.{uid_shorter}

-- the bytes of items with these contents
sizes : List (List ℕ) → ℕ
sizes [] = 0
sizes (c ∷ cs) = 4 + length c + sizes cs

item_sizes : List Item → ℕ
item_sizes [] = 0
item_sizes (i ∷ is) = 4 + length i.content + item_sizes is

length_items : (text : List ℕ) (items : List Item) → Each IsItem text items → length text ≡ item_sizes items
unfolding item_sizes
length_items text [] e = ap length e
length_items text (i ∷ is) (r, first, more) = omega (arith, length_items r is more, ap length first.parts, length-append i.content r)

sizes_with : (b : Bool) (content : List ℕ) (found : List (List ℕ)) → sizes (cond b (content ∷ found) found) ≡ cond b (4 + length content + sizes found) (sizes found)
unfolding sizes
sizes_with true content found = refl
sizes_with false content found = refl

-- the sizes of the items of some types, each type once
sizes_of : List ℕ → List Item → ℕ
sizes_of [] items = 0
sizes_of (k ∷ ks) items = sizes (contents k items) + sizes_of ks items

count_of : List ℕ → ℕ → ℕ
count_of [] k = 0
count_of (j ∷ js) k = cond (k == j) 1 0 + count_of js k

count_with : (b : Bool) (c more whole rest n : ℕ) → whole ≡ cond b (c + more) more → n ≡ c * 1 → whole ≡ cond b 1 0 * c + more
count_with true c more whole rest n e f = omega (arith, e)
count_with false c more whole rest n e f = omega (arith, e)

sizes_of-first : (ks : List ℕ) (i : Item) (items : List Item) → sizes_of ks (i ∷ items) ≡ count_of ks i.kind * (4 + length i.content) + sizes_of ks items
unfolding sizes_of count_of
sizes_of-first [] i items = omega arith
sizes_of-first (k ∷ ks) i items =
    let c : ℕ = 4 + length i.content in
    let first = count_with (i.kind == k) c (sizes (contents k items)) (sizes (contents k (i ∷ items))) 0 c (sizes_with (i.kind == k) i.content (contents k items)) (omega arith) in
    let others = sizes_of-first ks i items in
    grind (arith, first, others)

sizes_of-nil : (ks : List ℕ) → sizes_of ks [] ≤ 0
unfolding sizes_of sizes
sizes_of-nil [] = omega arith
sizes_of-nil (k ∷ ks) = omega (arith, sizes_of-nil ks)

sizes_within : (ks : List ℕ) → ((k : ℕ) → count_of ks k ≤ 1) → (items : List Item) → sizes_of ks items ≤ item_sizes items
unfolding item_sizes
sizes_within ks once [] = sizes_of-nil ks
sizes_within ks once (i ∷ is) =
    let le : count_of ks i.kind * (4 + length i.content) ≤ 1 * (4 + length i.content) = mul-le (count_of ks i.kind) (4 + length i.content) 1 (4 + length i.content) (once i.kind) (omega arith) in
    omega (arith, sizes_of-first ks i is, sizes_within ks once is, le)

-- what is written for things is no longer than some times the items that spelled them
written_sizes : {X : Type 0} (Spells : List ℕ → X → Type 0) (kind : ℕ) (f : X → List ℕ) (times : ℕ) → ((content : List ℕ) (x : X) → Spells content x → 4 + length (f x) ≤ times * (4 + length content))
    → (found : List (List ℕ)) (xs : List X) → EachSpells Spells found xs → length (flat_map (λ x. written_item kind (f x)) xs) ≤ times * sizes found
unfolding sizes written_item
written_sizes Spells kind f times le [] [] s = omega arith
written_sizes Spells kind f times le [] (x ∷ xs) s = absurd s
written_sizes Spells kind f times le (c ∷ cs) [] s = omega arith
written_sizes Spells kind f times le (c ∷ cs) (x ∷ xs) s =
    let first = le c x s.0 in
    let others = written_sizes Spells kind f times le cs xs s.1 in
    let whole = length-append (written_item kind (f x)) (flat_map (λ y. written_item kind (f y)) xs) in
    grind (arith, first, others, whole)

uid_size : (content uid : List ℕ) → SpellsUid content uid → 4 + length uid ≤ 1 * (4 + length content)
uid_size content uid s = omega (arith, uid_shorter content uid s)

one_uid_size : (found : List (List ℕ)) (uid : List ℕ) → EachSpells SpellsUid found (uid ∷ []) → 4 + length uid ≤ sizes found
unfolding sizes
one_uid_size [] uid s = absurd s
one_uid_size (c ∷ cs) uid s = omega (arith, uid_shorter c uid s.0)

once_2 : (a b k : ℕ) → a ≢ b → count_of (a ∷ b ∷ []) k ≤ 1
unfolding count_of
once_2 a b k ne = grind (arith, nat_tests)

once_3 : (a b c k : ℕ) → a ≢ b → a ≢ c → b ≢ c → count_of (a ∷ b ∷ c ∷ []) k ≤ 1
unfolding count_of
once_3 a b c k ab ac bc = grind (arith, nat_tests)

once_4 : (k : ℕ) → count_of (0x52 ∷ 0x53 ∷ 0x54 ∷ 0x55 ∷ []) k ≤ 1
unfolding count_of
once_4 k = grind (arith, nat_tests)

proposed_size : {A : Type 0} (content : List ℕ) (c : ProposedContext A) → SpellsProposedContext content c → length (proposed_content c) ≤ length content
unfolding proposed_content written_item sizes_of
proposed_size content c s =
    let items = s.syntaxes.items in
    omega (
      arith,
      ap length s.head.parts,
      length_items s.text items s.syntaxes.each,
      sizes_within (0x30 ∷ 0x40 ∷ []) (λ k. once_2 0x30 0x40 k (omega arith)) items,
      one_uid_size (contents 0x30 items) c.abstract_syntax s.syntaxes.abstract_syntax,
      written_sizes SpellsUid 0x40 (λ u. u) 1 uid_size (contents 0x40 items) c.transfer_syntaxes s.syntaxes.transfer_syntaxes,
      length-append c.abstract_syntax (flat_map (written_item 0x40) c.transfer_syntaxes),
    )

window_size : (content : List ℕ) (w : AsynchronousWindow) → SpellsWindow content w → 4 + length (window_content w) ≤ 1 * (4 + length content)
unfolding window_content
window_size content w s = omega (arith, ap length s.parts)

role_size : (content : List ℕ) (r : Role) → SpellsRole content r → 4 + length (role_content r) ≤ 1 * (4 + length content)
unfolding role_content
role_size content r s = omega (arith, ap length s.is.parts, uid_shorter s.text r.sop_class s.sop_class, length-append s.text (r.scu ∷ r.scp ∷ []), length-append r.sop_class (r.scu ∷ r.scp ∷ []))

own_size : (versions : List (List ℕ)) → length (flat_map (written_item 0x55) versions) ≤ sizes versions
unfolding sizes written_item
own_size [] = omega arith
own_size (v ∷ vs) = omega (arith, own_size vs, length-append v (flat_map (written_item 0x55) vs))

user_size : {A : Type 0} (content : List ℕ) (info : UserInformation A) → SpellsUserInformation content info → length (user_content info) ≤ 8 + length content
unfolding user_content written_item sizes_of
user_size content info s =
    let classes = option_to_list info.implementation_class in
    let windows = option_to_list info.asynchronous_window in
    let versions = option_to_list info.implementation_version in
    let t5 : List ℕ = flat_map (written_item 0x55) versions in
    let t4 : List ℕ = flat_map (λ r. written_item 0x54 (role_content r)) info.roles in
    let t3 : List ℕ = flat_map (λ w. written_item 0x53 (window_content w)) windows in
    let t2 : List ℕ = flat_map (written_item 0x52) classes in
    let l5 : length t5 ≤ sizes (contents 0x55 s.items) = subst (λ (l : List (List ℕ)). length t5 ≤ sizes l) (sym s.implementation_version) (own_size versions) in
    omega (
      arith,
      length_items content s.items s.each,
      sizes_within (0x52 ∷ 0x53 ∷ 0x54 ∷ 0x55 ∷ []) once_4 s.items,
      written_sizes SpellsUid 0x52 (λ u. u) 1 uid_size (contents 0x52 s.items) classes s.implementation_class,
      written_sizes SpellsWindow 0x53 window_content 1 window_size (contents 0x53 s.items) windows s.asynchronous_window,
      written_sizes SpellsRole 0x54 role_content 1 role_size (contents 0x54 s.items) info.roles s.each_role,
      l5,
      length-append t2 (t3 ++ (t4 ++ t5)),
      length-append t3 (t4 ++ t5),
      length-append t4 t5,
    )

answer_size : (outcome : ℕ) (found : List (List ℕ)) (a : ContextAnswer) → IsAnswer outcome found a → length (syntax_of a) ≤ 17 + sizes found
unfolding sizes
answer_size outcome [] (Accepted uid) s = absurd s.1
answer_size outcome (c ∷ cs) (Accepted uid) s = omega (arith, uid_shorter c uid s.1.0)
answer_size outcome found (Refused result) s = omega arith

answered_size : (content : List ℕ) (c : AnsweredContext) → SpellsAnsweredContext content c → 4 + length (answered_content c) ≤ 4 * (4 + length content)
unfolding answered_content written_item sizes_of
answered_size content c s =
    let items = s.answer.items in
    omega (
      arith,
      ap length s.head.parts,
      length_items s.text items s.answer.each,
      sizes_within (0x40 ∷ 0x41 ∷ []) (λ k. once_2 0x40 0x41 k (omega arith)) items,
      answer_size s.outcome (contents 0x40 items) c.answer s.answer.is,
    )

proposed_fourfold : {A : Type 0} (content : List ℕ) (c : ProposedContext A) → SpellsProposedContext content c → 4 + length (proposed_content c) ≤ 4 * (4 + length content)
proposed_fourfold content c s = omega (arith, proposed_size content c s)

each_below : {A : Type 0} (found : List (List ℕ)) (contexts : List (ProposedContext A)) → EachSpells SpellsProposedContext found contexts → sizes found ≤ 30000 → AllByRecursion (λ c. length (proposed_content c) < 2 ^ 16) contexts
unfolding sizes
each_below found [] s le = tt
each_below [] (x ∷ xs) s le = absurd s
each_below (c ∷ cs) (x ∷ xs) s le = (omega (arith, le, proposed_size c x s.0), each_below cs xs s.1 (omega (arith, le)))

head_size : (version : ℕ) (called calling : List ℕ) → length called ≡ 16 → length calling ≡ 16 → length (associate_head version called calling) ≡ 68
unfolding associate_head
head_size version called calling a b = omega (arith, a, b, length-append called (calling ++ replicate 32 0), length-append calling (replicate 32 0))

-- the items of an association PDU
items_size : {A X : Type 0} (kind : ℕ) (Spells : List ℕ → X → Type 0) (f : X → List ℕ) → ((content : List ℕ) (x : X) → Spells content x → 4 + length (f x) ≤ 4 * (4 + length content)) → 0x10 ≢ kind → kind ≢ 0x50
    → (text uid user : List ℕ) (contexts : List X) (info : UserInformation A) → AreAssociateItems kind Spells text uid contexts user → SpellsUserInformation user info
    → length (associate_items uid (λ x. written_item kind (f x)) contexts info) ≤ 8 + 4 * length text
unfolding associate_items written_item sizes_of sizes
items_size kind Spells f le n0 n1 text uid user contexts info s u =
    omega (
      arith,
      length_items text s.items s.each,
      sizes_within (0x10 ∷ kind ∷ 0x50 ∷ []) (λ k. once_3 0x10 kind 0x50 k n0 (omega arith) n1) s.items,
      one_uid_size (contents 0x10 s.items) uid s.application_context,
      written_sizes Spells kind f 4 le (contents kind s.items) contexts s.each_context,
      ap sizes s.user_information,
      user_size user info u,
      length-append uid (flat_map (λ x. written_item kind (f x)) contexts ++ written_item 0x50 (user_content info)),
      length-append (flat_map (λ x. written_item kind (f x)) contexts) (written_item 0x50 (user_content info)),
    )

user_below : {A X : Type 0} (kind : ℕ) (Spells : List ℕ → X → Type 0) (text uid user : List ℕ) (contexts : List X) (info : UserInformation A) → 0x10 ≢ kind → kind ≢ 0x50 → (s : AreAssociateItems kind Spells text uid contexts user) → SpellsUserInformation user info
    → (length (user_content info) ≤ 8 + length text) × (sizes (contents kind s.items) ≤ length text)
unfolding sizes_of sizes
user_below kind Spells text uid user contexts info n0 n1 s u =
    let all = sizes_within (0x10 ∷ kind ∷ 0x50 ∷ []) (λ k. once_3 0x10 kind 0x50 k n0 (omega arith) n1) s.items in
    (omega (arith, length_items text s.items s.each, all, ap sizes s.user_information, user_size user info u), omega (arith, length_items text s.items s.each, all))

body_below : (body : List ℕ) (version : ℕ) (called calling text : List ℕ) → IsAssociateHead body version called calling text → length body ≡ 68 + length text
body_below body version called calling text h =
    omega (
      arith,
      ap length h.parts,
      h.first_fits,
      h.called_fits,
      h.calling_fits,
      h.reserved_fits,
      length-append h.first (called ++ (calling ++ (h.reserved ++ text))),
      length-append called (calling ++ (h.reserved ++ text)),
      length-append calling (h.reserved ++ text),
      length-append h.reserved text,
    )

pdu_size : {A : Type 0} (bytes : List ℕ) (pdu : Pdu A) (s : SpellsPdu bytes pdu) → length bytes ≡ 6 + length s.body
pdu_size bytes pdu s = omega (arith, ap length s.whole.header.parts, length-append s.body [])

pub within_from_short : {A : Type 0} (bytes : List ℕ) (pdu : Pdu A) → SpellsPdu bytes pdu → length bytes ≤ 30000 → IsWithin pdu
within_from_short {A} bytes (AssociateRq rq) s short =
    let t = s.spelled.1 in
    let size = pdu_size bytes (AssociateRq rq) s in
    let body = body_below s.body rq.protocol_version rq.called rq.calling t.text t.head in
    let parts = user_below 0x20 (SpellsProposedContext {A = A}) t.text rq.application_context t.user rq.contexts rq.user_information (omega arith) (omega arith) t.items t.user_information in
    let items = items_size 0x20 (SpellsProposedContext {A = A}) proposed_content proposed_fourfold (omega arith) (omega arith) t.text rq.application_context t.user rq.contexts rq.user_information t.items t.user_information in
    let head = head_size rq.protocol_version rq.called rq.calling t.head.called_fits t.head.calling_fits in (
      each_below (contents 0x20 t.items.items) rq.contexts t.items.each_context (omega (arith, parts.1, size, body, short)),
      omega (arith, parts.0, size, body, short),
      omega (arith, items, head, size, body, short, length-append (associate_head rq.protocol_version rq.called rq.calling) (associate_items rq.application_context (λ c. written_item 0x20 (proposed_content c)) rq.contexts rq.user_information)),
    )
within_from_short bytes (AssociateAc ac) s short =
    let t = s.spelled.1 in
    let size = pdu_size bytes (AssociateAc ac) s in
    let body = body_below s.body ac.protocol_version ac.called ac.calling t.text t.head in
    let parts = user_below 0x21 SpellsAnsweredContext t.text ac.application_context t.user ac.contexts ac.user_information (omega arith) (omega arith) t.items t.user_information in
    let items = items_size 0x21 SpellsAnsweredContext answered_content answered_size (omega arith) (omega arith) t.text ac.application_context t.user ac.contexts ac.user_information t.items t.user_information in
    let head = head_size ac.protocol_version ac.called ac.calling t.head.called_fits t.head.calling_fits in (
      omega (arith, parts.0, size, body, short),
      omega (arith, items, head, size, body, short, length-append (associate_head ac.protocol_version ac.called ac.calling) (associate_items ac.application_context (λ c. written_item 0x21 (answered_content c)) ac.contexts ac.user_information)),
    )
within_from_short bytes (AssociateRj a b c) s short = tt
within_from_short bytes (Data ps) s short = tt
within_from_short bytes ReleaseRq s short = tt
within_from_short bytes ReleaseRp s short = tt
within_from_short bytes (Abort a b) s short = tt

-- what was read of the front of bytes can be written, where it is short
pub fits_from_read : {A : Type 0} (bytes : List ℕ) (n : ℕ) (pdu : Pdu A) → SpellsPdu (take n bytes) pdu → n ≤ 30000 → Fits pdu
fits_from_read bytes n pdu s short = fits_from_spelled (take n bytes) pdu s (within_from_short (take n bytes) pdu s (omega (arith, length-take n bytes, short)))
