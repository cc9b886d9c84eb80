-- There is one way to read association PDUs.
use Rattle.std.proofs.Common.{◌≡◌, ℕ, List, [], ◌∷◌, ◌++◌, refl, sym, ap, subst, ◌∙◌}
use Rattle.std.specs.Int.{w16, to_be_bytes}
use Rattle.std.specs.Option.{option_to_list}
use Rattle.std.specs.Prelude.{Option, Some, None, unwrap_or}
use Rattle.ups_pdu.specs.declared.associate.AssociateRq.{AssociateRq}
use Rattle.ups_pdu.specs.declared.associate.AssociateAc.{AssociateAc}
use Rattle.ups_pdu.specs.declared.associate.AsynchronousWindow.{AsynchronousWindow}
use Rattle.ups_pdu.specs.declared.associate.Role.{Role}
use Rattle.ups_pdu.specs.declared.associate.UserInformation.{UserInformation}
use Rattle.ups_pdu.specs.declared.associate.AnsweredContext.{AnsweredContext}
use Rattle.ups_pdu.specs.declared.associate.ProposedContext.{ProposedContext}
use Rattle.ups_pdu.specs.declared.context.ProposedHead.{ProposedHead}
use Rattle.ups_pdu.specs.Identifier.{SpellsUid}
use Rattle.ups_pdu.specs.Item.{Item, IsItem, contents, EachSpells, HasContents}
use Rattle.ups_pdu.specs.Context.{IsProposedHead, SpellsProposedContext, SpellsAnsweredContext}
use Rattle.ups_pdu.specs.UserItems.{IsUserInformation, SpellsUserInformation, SpellsMaximumLength, SpellsWindow, SpellsRole}
use Rattle.ups_pdu.specs.Association.{IsAssociateHead, AreAssociateItems, SpellsAssociateRq, SpellsAssociateAc}
use Rattle.ups_pdu.proofs.Parts.{same_parts, same_be_2}
use Rattle.ups_pdu.proofs.Sequence.{each_one}
use Rattle.ups_pdu.proofs.ItemWays.{item_way}
use Rattle.ups_pdu.proofs.Contents.{one_each, each_other, some_contents, some_things}
use Rattle.ups_pdu.proofs.UserWays.{one_uid, one_maximum, one_window, one_spelled_role}
use Rattle.ups_pdu.proofs.ContextWays.{head_of, context_of, one_proposed, one_answered}

pub one_head : (body : List ℕ) (v w : ℕ) (a b d e t u : List ℕ) → IsAssociateHead body v a b t → IsAssociateHead body w d e u → (v ≡ w) × (a ≡ d) × (b ≡ e) × (t ≡ u)
one_head body v w a b d e t u p q =
    let s0 = same_parts (to_be_bytes w16 v) (to_be_bytes w16 w) (p.first ++ (a ++ (b ++ (p.reserved ++ t)))) (q.first ++ (d ++ (e ++ (q.reserved ++ u)))) refl (sym p.parts ∙ q.parts) in
    let s1 = same_parts p.first q.first (a ++ (b ++ (p.reserved ++ t))) (d ++ (e ++ (q.reserved ++ u))) (p.first_fits ∙ sym q.first_fits) s0.1 in
    let s2 = same_parts a d (b ++ (p.reserved ++ t)) (e ++ (q.reserved ++ u)) (p.called_fits ∙ sym q.called_fits) s1.1 in
    let s3 = same_parts b e (p.reserved ++ t) (q.reserved ++ u) (p.calling_fits ∙ sym q.calling_fits) s2.1 in
    let s4 = same_parts p.reserved q.reserved t u (p.reserved_fits ∙ sym q.reserved_fits) s3.1 in
    (same_be_2 v w p.version_fits q.version_fits s0.0, s2.0, s3.0, s4.1)

-- the same items with other things for their contexts
pub items_by : {X Y : Type 0} (kind : ℕ) (S : List ℕ → X → Type 0) (T : List ℕ → Y → Type 0) (text uid user : List ℕ) (xs : List X) (s : AreAssociateItems kind S text uid xs user) (ys : List Y) → EachSpells T (contents kind s.items) ys → AreAssociateItems kind T text uid ys user
items_by kind S T text uid user xs s ys each_y = record {
  items = s.items;
  each = s.each;
  only = s.only;
  application_context = s.application_context;
  each_context = each_y;
  some = some_things T (contents kind s.items) ys each_y (some_contents S (contents kind s.items) xs s.each_context s.some);
  ids = s.ids;
  user_information = s.user_information;
}

pub items_as_heads : {A : Type 0} (text uid user : List ℕ) (contexts : List (ProposedContext A)) → AreAssociateItems 0x20 SpellsProposedContext text uid contexts user → (heads : List ProposedHead) × AreAssociateItems 0x20 IsProposedHead text uid heads user
items_as_heads {A} text uid user contexts s =
    let heads = each_other (SpellsProposedContext {A = A}) IsProposedHead head_of (contents 0x20 s.items) contexts s.each_context in
    (heads.0, items_by 0x20 SpellsProposedContext IsProposedHead text uid user contexts s heads.0 heads.1)

pub heads_as_contexts : (A : Type 0) (text uid user : List ℕ) (heads : List ProposedHead) (s : AreAssociateItems 0x20 IsProposedHead text uid heads user) → (contexts : List (ProposedContext A)) × EachSpells SpellsProposedContext (contents 0x20 s.items) contexts
heads_as_contexts A text uid user heads s = each_other IsProposedHead (SpellsProposedContext {A = A}) (context_of A) (contents 0x20 s.items) heads s.each_context

pub has_contexts : {X : Type 0} (kind : ℕ) (S : List ℕ → X → Type 0) (text uid user : List ℕ) (xs : List X) (s : AreAssociateItems kind S text uid xs user) → HasContents kind text (contents kind s.items)
has_contexts kind S text uid user xs s = record { items = s.items; each = s.each; are = refl }

-- there is one user information
pub one_user_content : {X Y : Type 0} (kind : ℕ) (S : List ℕ → X → Type 0) (T : List ℕ → Y → Type 0) (text u v a b : List ℕ) (xs : List X) (ys : List Y) → AreAssociateItems kind S text u xs a → AreAssociateItems kind T text v ys b → a ≡ b
one_user_content kind S T text u v a b xs ys s t =
    let items = each_one IsItem item_way text s.items t.items s.each t.each in
    let e : a ∷ [] ≡ b ∷ [] = sym s.user_information ∙ ap (contents 0x50) items ∙ t.user_information in
    cc

pub info_of : (A : Type 0) (content : List ℕ) (m : ℕ) (c : Option (List ℕ)) (w : Option AsynchronousWindow) (r : List Role) (v : Option (List ℕ)) → IsUserInformation content m c w r v → (info : UserInformation A) × SpellsUserInformation content info
info_of A content m c w r v is = (record { maximum_length = m; implementation_class = c; asynchronous_window = w; roles = r; implementation_version = v }, is)

-- what the parts of a request are, a request is
pub rq_of : (A : Type 0) (body : List ℕ) (version : ℕ) (called calling text : List ℕ) → IsAssociateHead body version called calling text → (uid user : List ℕ) (heads : List ProposedHead) → AreAssociateItems 0x20 IsProposedHead text uid heads user
    → (m : ℕ) (c : Option (List ℕ)) (w : Option AsynchronousWindow) (r : List Role) (v : Option (List ℕ)) → IsUserInformation user m c w r v → (rq : AssociateRq A) × SpellsAssociateRq body rq
rq_of A body version called calling text head uid user heads s m c w r v is =
    let contexts = heads_as_contexts A text uid user heads s in
    let info = info_of A user m c w r v is in (
      record { protocol_version = version; called = called; calling = calling; application_context = uid; contexts = contexts.0; user_information = info.0 },
      record { text = text; user = user; head = head; items = items_by 0x20 IsProposedHead SpellsProposedContext text uid user heads s contexts.0 contexts.1; user_information = info.1 },
    )

pub ac_of : (A : Type 0) (body : List ℕ) (version : ℕ) (called calling text : List ℕ) → IsAssociateHead body version called calling text → (uid user : List ℕ) (contexts : List AnsweredContext) → AreAssociateItems 0x21 SpellsAnsweredContext text uid contexts user
    → (m : ℕ) (c : Option (List ℕ)) (w : Option AsynchronousWindow) (r : List Role) (v : Option (List ℕ)) → IsUserInformation user m c w r v → (ac : AssociateAc A) × SpellsAssociateAc body ac
ac_of A body version called calling text head uid user contexts s m c w r v is =
    let info = info_of A user m c w r v is in (
      record { protocol_version = version; called = called; calling = calling; application_context = uid; contexts = contexts; user_information = info.0 },
      record { text = text; user = user; head = head; items = s; user_information = info.1 },
    )

-- the parts that a request has
pub items_at : {A : Type 0} (body : List ℕ) (version : ℕ) (called calling text : List ℕ) → IsAssociateHead body version called calling text → (rq : AssociateRq A) (s : SpellsAssociateRq body rq)
    → (heads : List ProposedHead) × AreAssociateItems 0x20 IsProposedHead text rq.application_context heads s.user
items_at body version called calling text head rq s =
    let same = one_head body rq.protocol_version version rq.called rq.calling called calling s.text text s.head head in
    let heads = items_as_heads s.text rq.application_context s.user rq.contexts s.items in
    (heads.0, subst (λ (t : List ℕ). AreAssociateItems 0x20 IsProposedHead t rq.application_context heads.0 s.user) same.3 heads.1)

pub answered_at : {A : Type 0} (body : List ℕ) (version : ℕ) (called calling text : List ℕ) → IsAssociateHead body version called calling text → (ac : AssociateAc A) (s : SpellsAssociateAc body ac)
    → AreAssociateItems 0x21 SpellsAnsweredContext text ac.application_context ac.contexts s.user
answered_at body version called calling text head ac s =
    let same = one_head body ac.protocol_version version ac.called ac.calling called calling s.text text s.head head in
    subst (λ (t : List ℕ). AreAssociateItems 0x21 SpellsAnsweredContext t ac.application_context ac.contexts s.user) same.3 s.items

pub user_at : {A : Type 0} (user content : List ℕ) → user ≡ content → (info : UserInformation A) → SpellsUserInformation user info → SpellsUserInformation content info
user_at user content e info s = subst (λ (t : List ℕ). SpellsUserInformation t info) e s

one_optional : {X : Type 0} (Spells : List ℕ → X → Type 0) → ((content : List ℕ) (x y : X) → Spells content x → Spells content y → x ≡ y) → (found : List (List ℕ)) (x y : Option X) → EachSpells Spells found (option_to_list x) → EachSpells Spells found (option_to_list y) → x ≡ y
one_optional Spells one found None None s t = refl
one_optional Spells one [] None (Some y) s t = absurd t
one_optional Spells one (c ∷ cs) None (Some y) s t = absurd s
one_optional Spells one [] (Some x) None s t = absurd s
one_optional Spells one (c ∷ cs) (Some x) None s t = absurd t
one_optional Spells one [] (Some x) (Some y) s t = absurd s
one_optional Spells one (c ∷ cs) (Some x) (Some y) s t = ap Some (one c x y s.0 t.0)

one_list : (x y : Option (List ℕ)) → option_to_list x ≡ option_to_list y → x ≡ y
one_list None None e = refl
one_list None (Some y) e = absurd cc
one_list (Some x) None e = absurd cc
one_list (Some x) (Some y) e = let f : x ≡ y = cc in ap Some f

one_info : {A : Type 0} (content : List ℕ) (a b : UserInformation A) → SpellsUserInformation content a → SpellsUserInformation content b → a ≡ b
one_info {A} content a b s t =
    let items = each_one IsItem item_way content s.items t.items s.each t.each in
    let stated : s.stated ≡ t.stated = one_optional SpellsMaximumLength one_maximum (contents 0x51 t.items) s.stated t.stated (subst (λ (l : List Item). EachSpells SpellsMaximumLength (contents 0x51 l) (option_to_list s.stated)) items s.maximum_length) t.maximum_length in
    let maximum : a.maximum_length ≡ b.maximum_length = s.or_none ∙ ap (λ (o : Option ℕ). unwrap_or o 0) stated ∙ sym t.or_none in
    let class = one_optional SpellsUid one_uid (contents 0x52 t.items) a.implementation_class b.implementation_class (subst (λ (l : List Item). EachSpells SpellsUid (contents 0x52 l) (option_to_list a.implementation_class)) items s.implementation_class) t.implementation_class in
    let window = one_optional SpellsWindow one_window (contents 0x53 t.items) a.asynchronous_window b.asynchronous_window (subst (λ (l : List Item). EachSpells SpellsWindow (contents 0x53 l) (option_to_list a.asynchronous_window)) items s.asynchronous_window) t.asynchronous_window in
    let roles : a.roles ≡ b.roles = one_each SpellsRole one_spelled_role (contents 0x54 t.items) a.roles b.roles (subst (λ (l : List Item). EachSpells SpellsRole (contents 0x54 l) a.roles) items s.each_role) t.each_role in
    let version = one_list a.implementation_version b.implementation_version (sym s.implementation_version ∙ ap (contents 0x55) items ∙ t.implementation_version) in
    λ i. record { maximum_length = maximum i; implementation_class = class i; asynchronous_window = window i; roles = roles i; implementation_version = version i }

one_name : {X Y : Type 0} (kind : ℕ) (S : List ℕ → X → Type 0) (T : List ℕ → Y → Type 0) (text u v a b : List ℕ) (xs : List X) (ys : List Y) → AreAssociateItems kind S text u xs a → AreAssociateItems kind T text v ys b → u ≡ v
one_name kind S T text u v a b xs ys s t =
    let items = each_one IsItem item_way text s.items t.items s.each t.each in
    let e : u ∷ [] ≡ v ∷ [] = one_each SpellsUid one_uid (contents 0x10 t.items) (u ∷ []) (v ∷ []) (subst (λ (l : List Item). EachSpells SpellsUid (contents 0x10 l) (u ∷ [])) items s.application_context) t.application_context in
    cc

one_contexts : {X : Type 0} (kind : ℕ) (S : List ℕ → X → Type 0) → ((content : List ℕ) (x y : X) → S content x → S content y → x ≡ y) → (text u v a b : List ℕ) (xs ys : List X) → AreAssociateItems kind S text u xs a → AreAssociateItems kind S text v ys b → xs ≡ ys
one_contexts {X} kind S one text u v a b xs ys s t =
    let items = each_one IsItem item_way text s.items t.items s.each t.each in
    one_each S one (contents kind t.items) xs ys (subst (λ (l : List Item). EachSpells S (contents kind l) xs) items s.each_context) t.each_context

pub one_rq : {A : Type 0} (body : List ℕ) (a b : AssociateRq A) → SpellsAssociateRq body a → SpellsAssociateRq body b → a ≡ b
one_rq {A} body a b s t =
    let same = one_head body a.protocol_version b.protocol_version a.called a.calling b.called b.calling s.text t.text s.head t.head in
    let mine = subst (λ (x : List ℕ). AreAssociateItems 0x20 (SpellsProposedContext {A = A}) x a.application_context a.contexts s.user) same.3 s.items in
    let name = one_name 0x20 (SpellsProposedContext {A = A}) (SpellsProposedContext {A = A}) t.text a.application_context b.application_context s.user t.user a.contexts b.contexts mine t.items in
    let contexts : a.contexts ≡ b.contexts = one_contexts 0x20 (SpellsProposedContext {A = A}) one_proposed t.text a.application_context b.application_context s.user t.user a.contexts b.contexts mine t.items in
    let user = one_user_content 0x20 (SpellsProposedContext {A = A}) (SpellsProposedContext {A = A}) t.text a.application_context b.application_context s.user t.user a.contexts b.contexts mine t.items in
    let info = one_info t.user a.user_information b.user_information (user_at s.user t.user user a.user_information s.user_information) t.user_information in
    λ i. record { protocol_version = same.0 i; called = same.1 i; calling = same.2 i; application_context = name i; contexts = contexts i; user_information = info i }

pub one_ac : {A : Type 0} (body : List ℕ) (a b : AssociateAc A) → SpellsAssociateAc body a → SpellsAssociateAc body b → a ≡ b
one_ac {A} body a b s t =
    let same = one_head body a.protocol_version b.protocol_version a.called a.calling b.called b.calling s.text t.text s.head t.head in
    let mine = subst (λ (x : List ℕ). AreAssociateItems 0x21 SpellsAnsweredContext x a.application_context a.contexts s.user) same.3 s.items in
    let name = one_name 0x21 SpellsAnsweredContext SpellsAnsweredContext t.text a.application_context b.application_context s.user t.user a.contexts b.contexts mine t.items in
    let contexts : a.contexts ≡ b.contexts = one_contexts 0x21 SpellsAnsweredContext one_answered t.text a.application_context b.application_context s.user t.user a.contexts b.contexts mine t.items in
    let user = one_user_content 0x21 SpellsAnsweredContext SpellsAnsweredContext t.text a.application_context b.application_context s.user t.user a.contexts b.contexts mine t.items in
    let info = one_info t.user a.user_information b.user_information (user_at s.user t.user user a.user_information s.user_information) t.user_information in
    λ i. record { protocol_version = same.0 i; called = same.1 i; calling = same.2 i; application_context = name i; contexts = contexts i; user_information = info i }
