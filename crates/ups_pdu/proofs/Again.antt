-- What is written is a spelling.
use Rattle.std.proofs.Common.{◌≡◌, ℕ, ◌+◌, ◌<◌, ◌≤◌, ◌^◌, Bool, true, false, ◌&&◌, ◌||◌, cond, List, [], ◌∷◌, ◌++◌, length, map, replicate, Some, refl, sym, ap, subst, ◌∙◌, arith, append_assoc}
use Rattle.std.specs.Prelude.{bit_and, ◌==◌}
use Rattle.std.specs.List.{flat_map, list_all, AllByRecursion}
use Rattle.std.specs.Option.{option_to_list}
use Rattle.std.specs.Int.{w32, to_be_bytes}
use Rattle.std.proofs.lemmas.List.{append-nil, length-append}
use Rattle.ups_pdu.specs.declared.pdv.Pdv.{Pdv}
use Rattle.ups_pdu.specs.declared.pdu.Pdu.{Pdu}
use Rattle.ups_pdu.specs.declared.pdu.Pdu.TheVariants.{AssociateRq, AssociateAc, AssociateRj, Data, ReleaseRq, ReleaseRp, Abort}
use Rattle.ups_pdu.specs.declared.kind.PduKind.{PduKind}
use Rattle.ups_pdu.specs.declared.kind.PduKind.TheVariants as kinds
use Rattle.ups_pdu.specs.declared.associate.AssociateRq.{AssociateRq as Rq}
use Rattle.ups_pdu.specs.declared.associate.AssociateAc.{AssociateAc as Ac}
use Rattle.ups_pdu.specs.declared.associate.UserInformation.{UserInformation}
use Rattle.ups_pdu.specs.declared.associate.ProposedContext.{ProposedContext}
use Rattle.ups_pdu.specs.declared.associate.AnsweredContext.{AnsweredContext}
use Rattle.ups_pdu.specs.declared.associate.ContextAnswer.{ContextAnswer}
use Rattle.ups_pdu.specs.declared.associate.ContextAnswer.TheVariants.{Accepted, Refused}
use Rattle.ups_pdu.specs.declared.associate.AsynchronousWindow.{AsynchronousWindow}
use Rattle.ups_pdu.specs.declared.associate.Role.{Role}
use Rattle.ups_pdu.specs.declared.registered.RegisteredUid.TheVariants.{ImplicitVrLittleEndian}
use Rattle.ups_pdu.specs.Registered.{text_of}
use Rattle.ups_pdu.specs.Each.{Each}
use Rattle.ups_pdu.specs.Identifier.{IsUid, SpellsUid}
use Rattle.ups_pdu.specs.Item.{Item, IsItem, is_one_of, contents, EachSpells}
use Rattle.ups_pdu.specs.Context.{SpellsProposedContext, IsAnswer, SpellsAnsweredContext, first_byte, are_context_ids}
use Rattle.ups_pdu.specs.UserItems.{SpellsUserInformation, SpellsMaximumLength, SpellsWindow, SpellsRole}
use Rattle.ups_pdu.specs.Association.{IsAssociateHead, AreAssociateItems, SpellsAssociateRq, SpellsAssociateAc}
use Rattle.ups_pdu.specs.Header.{type_code, limit}
use Rattle.ups_pdu.specs.Fragment.{SpellsPdv}
use Rattle.ups_pdu.specs.Spelling.{IsBody, SpellsPdu}
use Rattle.ups_pdu.specs.Written.{pdu_kind, control_of, pdv_content, written_pdv, written_item, proposed_content, context_result, syntax_of, answered_content, window_content, role_content, user_content, associate_head, associate_items, written_body, written_pdu}
use Rattle.ups_pdu.specs.Fits.{Fits, FitsProposed, FitsAnswer, FitsWindow, FitsUser, FitsAssociate}
use Rattle.ups_pdu.proofs.UidText.{spells_itself}

-- an item with this content
abbrev item : {X : Type 0} → ℕ → (X → List ℕ) → X → Item
item kind f x = record { kind = kind; content = f x }

abbrev Short : {X : Type 0} → (X → List ℕ) → X → Type 0
Short f x = length (f x) < 2 ^ 16

each_first : (kind : ℕ) (content rest : List ℕ) (items : List Item) → length content < 2 ^ 16 → Each IsItem rest items → Each IsItem (written_item kind content ++ rest) (record { kind = kind; content = content } ∷ items)
unfolding written_item
each_first kind content rest items short each = (rest, record { reserved = 0; fits = short; parts = refl }, each)

each_mapped : {X : Type 0} (kind : ℕ) (f : X → List ℕ) (xs : List X) → AllByRecursion (Short f) xs → (rest : List ℕ) (items : List Item) → Each IsItem rest items
    → Each IsItem (flat_map (λ x. written_item kind (f x)) xs ++ rest) (map (item kind f) xs ++ items)
each_mapped kind f [] short rest items each = each
each_mapped kind f (x ∷ xs) short rest items each =
    subst (λ (t : List ℕ). Each IsItem t (map (item kind f) (x ∷ xs) ++ items)) (sym (append_assoc (written_item kind (f x)) (flat_map (λ y. written_item kind (f y)) xs) rest))
    (each_first kind (f x) (flat_map (λ y. written_item kind (f y)) xs ++ rest) (map (item kind f) xs ++ items) short.0 (each_mapped kind f xs short.1 rest items each))

-- the contents of mapped items, of their own type and of others
own : {X : Type 0} (kind : ℕ) (f : X → List ℕ) → (kind == kind) ≡ true → (xs : List X) (items : List Item) → contents kind (map (item kind f) xs ++ items) ≡ map f xs ++ contents kind items
own kind f e [] items = refl
own kind f e (x ∷ xs) items = ap (λ (b : Bool). cond b (f x ∷ contents kind (map (item kind f) xs ++ items)) (contents kind (map (item kind f) xs ++ items))) e ∙ ap (λ (l : List (List ℕ)). f x ∷ l) (own kind f e xs items)

others : {X : Type 0} (kind k : ℕ) (f : X → List ℕ) → (kind == k) ≡ false → (xs : List X) (items : List Item) → contents k (map (item kind f) xs ++ items) ≡ contents k items
others kind k f e [] items = refl
others kind k f e (x ∷ xs) items = ap (λ (b : Bool). cond b (f x ∷ contents k (map (item kind f) xs ++ items)) (contents k (map (item kind f) xs ++ items))) e ∙ others kind k f e xs items

allowed : {X : Type 0} (kinds : List ℕ) (kind : ℕ) (f : X → List ℕ) → ((c : List ℕ) → is_one_of kinds (record { kind = kind; content = c }) ≡ true) → (xs : List X) (items : List Item) → list_all (is_one_of kinds) (map (item kind f) xs ++ items) ≡ list_all (is_one_of kinds) items
allowed kinds kind f e [] items = refl
allowed kinds kind f e (x ∷ xs) items = ap (λ (b : Bool). b && list_all (is_one_of kinds) (map (item kind f) xs ++ items)) (e (f x)) ∙ allowed kinds kind f e xs items

each_spelled : {X : Type 0} (Spells : List ℕ → X → Type 0) (f : X → List ℕ) (xs : List X) → AllByRecursion (λ x. Spells (f x) x) xs → EachSpells Spells (map f xs ++ []) xs
each_spelled Spells f [] s = tt
each_spelled Spells f (x ∷ xs) s = (s.0, each_spelled Spells f xs s.1)

all_by : {X : Type 0} (P Q : X → Type 0) → ((x : X) → P x → Q x) → (xs : List X) → AllByRecursion P xs → AllByRecursion Q xs
all_by P Q f [] s = tt
all_by P Q f (x ∷ xs) s = (f x s.0, all_by P Q f xs s.1)

abbrev self : List ℕ → List ℕ
self u = u

short_uid : (u : List ℕ) → IsUid u → Short self u
short_uid u is = omega (arith, is.short)

proposed_again : {A : Type 0} (c : ProposedContext A) → FitsProposed c → SpellsProposedContext (proposed_content c) c
unfolding proposed_content
proposed_again c fits =
    let uids : List Item = map (item 0x40 self) c.transfer_syntaxes ++ [] in
    let text : List ℕ = flat_map (written_item 0x40) c.transfer_syntaxes in
    let each = subst (λ (t : List ℕ). Each IsItem t uids) (append-nil text) (each_mapped 0x40 self c.transfer_syntaxes (all_by IsUid (Short self) short_uid c.transfer_syntaxes fits.transfer_syntaxes) [] [] refl) in
    record {
      reserved = 0;
      text = written_item 0x30 c.abstract_syntax ++ text;
      head = record { second = 0; fourth = 0; parts = refl };
      syntaxes = record {
        items = record { kind = 0x30; content = c.abstract_syntax } ∷ uids;
        each = each_first 0x30 c.abstract_syntax text uids (short_uid c.abstract_syntax fits.abstract_syntax) each;
        only = allowed (0x30 ∷ 0x40 ∷ []) 0x40 self (λ _. refl) c.transfer_syntaxes [];
        abstract_syntax = subst (λ (l : List (List ℕ)). EachSpells SpellsUid (c.abstract_syntax ∷ l) (c.abstract_syntax ∷ [])) (sym (others 0x40 0x30 self refl c.transfer_syntaxes [])) (spells_itself c.abstract_syntax fits.abstract_syntax, tt);
        transfer_syntaxes =
            subst (λ (l : List (List ℕ)). EachSpells SpellsUid l c.transfer_syntaxes) (sym (own 0x40 self refl c.transfer_syntaxes []))
            (each_spelled SpellsUid self c.transfer_syntaxes (all_by IsUid (λ u. SpellsUid u u) spells_itself c.transfer_syntaxes fits.transfer_syntaxes));
        some = fits.some;
      };
    }

answer_spelled : (a : ContextAnswer) → FitsAnswer a → IsAnswer (context_result a) (syntax_of a ∷ []) a
answer_spelled (Accepted uid) fits = (refl, (spells_itself uid fits, tt))
answer_spelled (Refused result) fits = (refl, fits, Some (text_of ImplicitVrLittleEndian), refl)

short_syntax : (a : ContextAnswer) → FitsAnswer a → length (syntax_of a) ≤ 64
short_syntax (Accepted uid) fits = fits.short
short_syntax (Refused result) fits = omega arith

answered_again : (c : AnsweredContext) → FitsAnswer c.answer → SpellsAnsweredContext (answered_content c) c
unfolding answered_content
answered_again c fits = record {
  outcome = context_result c.answer;
  text = written_item 0x40 (syntax_of c.answer);
  head = record { second = 0; fourth = 0; parts = refl };
  answer = record {
    items = record { kind = 0x40; content = syntax_of c.answer } ∷ [];
    each = subst (λ (t : List ℕ). Each IsItem t (record { kind = 0x40; content = syntax_of c.answer } ∷ [])) (append-nil (written_item 0x40 (syntax_of c.answer))) (each_first 0x40 (syntax_of c.answer) [] [] (omega (arith, short_syntax c.answer fits)) refl);
    only = refl;
    is = answer_spelled c.answer fits;
  };
}

answered_short : (c : AnsweredContext) → FitsAnswer c.answer → length (answered_content c) < 2 ^ 16
unfolding answered_content written_item
answered_short c fits = omega (arith, short_syntax c.answer fits)

window_again : (w : AsynchronousWindow) → FitsWindow w → SpellsWindow (window_content w) w
unfolding window_content
window_again w fits = record { invoked = fits.0; performed = fits.1; parts = refl }

window_short : (w : AsynchronousWindow) → FitsWindow w → Short window_content w
unfolding window_content
window_short w fits = omega arith

role_again : (r : Role) → IsUid r.sop_class → SpellsRole (role_content r) r
unfolding role_content
role_again r is = record { text = r.sop_class; is = record { fits = omega (arith, is.short); parts = refl }; sop_class = spells_itself r.sop_class is }

role_short : (r : Role) → IsUid r.sop_class → Short role_content r
unfolding role_content
role_short r is = omega (arith, is.short, length-append r.sop_class (r.scu ∷ r.scp ∷ []))

same_map : (xs : List (List ℕ)) → map self xs ++ [] ≡ xs
same_map [] = refl
same_map (x ∷ xs) = ap (λ (l : List (List ℕ)). x ∷ l) (same_map xs)

user_again : {A : Type 0} (info : UserInformation A) → FitsUser info → SpellsUserInformation (user_content info) info
unfolding user_content
user_again info fits =
    let classes = option_to_list info.implementation_class in
    let windows = option_to_list info.asynchronous_window in
    let versions = option_to_list info.implementation_version in
    let i5 : List Item = map (item 0x55 self) versions ++ [] in
    let i4 : List Item = map (item 0x54 role_content) info.roles ++ i5 in
    let i3 : List Item = map (item 0x53 window_content) windows ++ i4 in
    let i2 : List Item = map (item 0x52 self) classes ++ i3 in
    let t5 : List ℕ = flat_map (written_item 0x55) versions in
    let t4 : List ℕ = flat_map (λ r. written_item 0x54 (role_content r)) info.roles ++ t5 in
    let t3 : List ℕ = flat_map (λ w. written_item 0x53 (window_content w)) windows ++ t4 in
    let t2 : List ℕ = flat_map (written_item 0x52) classes ++ t3 in
    let e5 = subst (λ (t : List ℕ). Each IsItem t i5) (append-nil t5) (each_mapped 0x55 self versions fits.implementation_version [] [] refl) in
    let e4 = each_mapped 0x54 role_content info.roles (all_by (λ r. IsUid r.sop_class) (Short role_content) role_short info.roles fits.roles) t5 i5 e5 in
    let e3 = each_mapped 0x53 window_content windows (all_by FitsWindow (Short window_content) window_short windows fits.asynchronous_window) t4 i4 e4 in
    let e2 = each_mapped 0x52 self classes (all_by IsUid (Short self) short_uid classes fits.implementation_class) t3 i3 e3 in
    record {
      items = record { kind = 0x51; content = to_be_bytes w32 info.maximum_length } ∷ i2;
      each = each_first 0x51 (to_be_bytes w32 info.maximum_length) t2 i2 (omega arith) e2;
      stated = Some info.maximum_length;
      maximum_length =
          subst (λ (l : List (List ℕ)). EachSpells SpellsMaximumLength (to_be_bytes w32 info.maximum_length ∷ l) (info.maximum_length ∷ []))
          (sym (others 0x52 0x51 self refl classes i3 ∙ others 0x53 0x51 window_content refl windows i4 ∙ others 0x54 0x51 role_content refl info.roles i5 ∙ others 0x55 0x51 self refl versions []))
          (record { fits = fits.maximum_length; parts = refl }, tt);
      or_none = refl;
      implementation_class =
          subst (λ (l : List (List ℕ)). EachSpells SpellsUid l classes)
          (sym (own 0x52 self refl classes i3 ∙ ap (λ (l : List (List ℕ)). map self classes ++ l) (others 0x53 0x52 window_content refl windows i4 ∙ others 0x54 0x52 role_content refl info.roles i5 ∙ others 0x55 0x52 self refl versions [])))
          (each_spelled SpellsUid self classes (all_by IsUid (λ u. SpellsUid u u) spells_itself classes fits.implementation_class));
      asynchronous_window =
          subst (λ (l : List (List ℕ)). EachSpells SpellsWindow l windows)
          (sym (others 0x52 0x53 self refl classes i3 ∙ own 0x53 window_content refl windows i4 ∙ ap (λ (l : List (List ℕ)). map window_content windows ++ l) (others 0x54 0x53 role_content refl info.roles i5 ∙ others 0x55 0x53 self refl versions [])))
          (each_spelled SpellsWindow window_content windows (all_by FitsWindow (λ w. SpellsWindow (window_content w) w) window_again windows fits.asynchronous_window));
      each_role =
          subst (λ (l : List (List ℕ)). EachSpells SpellsRole l info.roles)
          (sym (others 0x52 0x54 self refl classes i3 ∙ others 0x53 0x54 window_content refl windows i4 ∙ own 0x54 role_content refl info.roles i5 ∙ ap (λ (l : List (List ℕ)). map role_content info.roles ++ l) (others 0x55 0x54 self refl versions [])))
          (each_spelled SpellsRole role_content info.roles (all_by (λ r. IsUid r.sop_class) (λ r. SpellsRole (role_content r) r) role_again info.roles fits.roles));
      implementation_version = others 0x52 0x55 self refl classes i3 ∙ others 0x53 0x55 window_content refl windows i4 ∙ others 0x54 0x55 role_content refl info.roles i5 ∙ own 0x55 self refl versions [] ∙ same_map versions;
    }

head_again : (version : ℕ) (called calling text : List ℕ) → version < 2 ^ 16 → length called ≡ 16 → length calling ≡ 16 → IsAssociateHead (associate_head version called calling ++ text) version called calling text
unfolding associate_head
head_again version called calling text v a b = record {
  first = 0 ∷ 0 ∷ [];
  reserved = replicate 32 0;
  version_fits = v;
  first_fits = refl;
  called_fits = a;
  calling_fits = b;
  reserved_fits = refl;
  parts = simp append_assoc;
}

first_bytes : {X : Type 0} (f : X → List ℕ) (id : X → ℕ) → ((x : X) → first_byte (f x) ≡ id x) → (xs : List X) → map first_byte (map f xs ++ []) ≡ map id xs
first_bytes f id e [] = refl
first_bytes f id e (x ∷ xs) = ap (λ (n : ℕ). n ∷ map first_byte (map f xs ++ [])) (e x) ∙ ap (λ (l : List ℕ). id x ∷ l) (first_bytes f id e xs)

-- the items of an association PDU, whose contexts are of a type that no other item has
items_again : {A X : Type 0} (kind : ℕ) (Spells : List ℕ → X → Type 0) (Fits : X → Type 0) (f : X → List ℕ) (id : X → ℕ) → ((x : X) → first_byte (f x) ≡ id x) → ((x : X) → Fits x → Spells (f x) x) → ((x : X) → Fits x → Short f x)
    → (kind == kind) ≡ true → (kind == 0x10) ≡ false → (0x10 == kind) ≡ false → (kind == 0x50) ≡ false → (0x50 == kind) ≡ false
    → (version : ℕ) (called calling uid : List ℕ) (contexts : List X) (info : UserInformation A) → FitsAssociate Fits version called calling uid contexts (map id contexts) info
    → AreAssociateItems kind Spells (associate_items uid (λ x. written_item kind (f x)) contexts info) uid contexts (user_content info)
unfolding associate_items
items_again kind Spells Fits f id e spells short k0 k1 k2 k3 k4 version called calling uid contexts info fits =
    let user : List Item = record { kind = 0x50; content = user_content info } ∷ [] in
    let mine : List Item = map (item kind f) contexts ++ user in
    let last = subst (λ (t : List ℕ). Each IsItem t user) (append-nil (written_item 0x50 (user_content info))) (each_first 0x50 (user_content info) [] [] fits.user_information.short refl) in
    let own_contents : contents kind mine ≡ map f contexts ++ [] =
    own kind f k0 contexts user ∙ ap (λ (b : Bool). map f contexts ++ cond b (user_content info ∷ []) []) k4 in
    let all_contents : contents kind (record { kind = 0x10; content = uid } ∷ mine) ≡ map f contexts ++ [] = ap (λ (b : Bool). cond b (uid ∷ contents kind mine) (contents kind mine)) k2 ∙ own_contents in
    record {
      items = record { kind = 0x10; content = uid } ∷ mine;
      each = each_first 0x10 uid (flat_map (λ x. written_item kind (f x)) contexts ++ written_item 0x50 (user_content info)) mine (short_uid uid fits.application_context) (each_mapped kind f contexts (all_by Fits (Short f) short contexts fits.each_context) (written_item 0x50 (user_content info)) user last);
      only = allowed (0x10 ∷ kind ∷ 0x50 ∷ []) kind f (λ c. ap (λ (b : Bool). b || ((kind == kind) || ((0x50 == kind) || false))) k2 ∙ ap (λ (b : Bool). b || ((0x50 == kind) || false)) k0) contexts user ∙ ap (λ (b : Bool). (b || true) && true) k3;
      application_context = subst (λ (l : List (List ℕ)). EachSpells SpellsUid (uid ∷ l) (uid ∷ [])) (sym (others kind 0x10 f k1 contexts user)) (spells_itself uid fits.application_context, tt);
      each_context = subst (λ (l : List (List ℕ)). EachSpells Spells l contexts) (sym all_contents) (each_spelled Spells f contexts (all_by Fits (λ x. Spells (f x) x) spells contexts fits.each_context));
      some = fits.some;
      ids = ap (λ (l : List (List ℕ)). are_context_ids (map first_byte l)) all_contents ∙ ap are_context_ids (first_bytes f id e contexts) ∙ fits.odd_and_different;
      user_information = others kind 0x50 f k3 contexts user;
    }

proposed_id : {A : Type 0} (c : ProposedContext A) → first_byte (proposed_content c) ≡ c.id
unfolding proposed_content
proposed_id c = refl

answered_id : (c : AnsweredContext) → first_byte (answered_content c) ≡ c.id
unfolding answered_content
answered_id c = refl

rq_again : {A : Type 0} (rq : Rq A) → Fits (AssociateRq rq) → SpellsAssociateRq (written_body (AssociateRq rq)) rq
rq_again {A} rq fits = record {
  text = associate_items rq.application_context (λ c. written_item 0x20 (proposed_content c)) rq.contexts rq.user_information;
  user = user_content rq.user_information;
  head = head_again rq.protocol_version rq.called rq.calling _ fits.0.protocol_version fits.0.called_title fits.0.calling_title;
  items = items_again 0x20 (SpellsProposedContext {A = A}) (FitsProposed {A = A}) proposed_content (λ c. c.id) proposed_id proposed_again (λ c f. f.short) refl refl refl refl refl rq.protocol_version rq.called rq.calling rq.application_context rq.contexts rq.user_information fits.0;
  user_information = user_again rq.user_information fits.0.user_information;
}

ac_again : {A : Type 0} (ac : Ac A) → Fits (AssociateAc ac) → SpellsAssociateAc (written_body (AssociateAc ac)) ac
ac_again {A} ac fits = record {
  text = associate_items ac.application_context (λ c. written_item 0x21 (answered_content c)) ac.contexts ac.user_information;
  user = user_content ac.user_information;
  head = head_again ac.protocol_version ac.called ac.calling _ fits.0.protocol_version fits.0.called_title fits.0.calling_title;
  items = items_again 0x21 SpellsAnsweredContext (λ c. FitsAnswer c.answer) answered_content (λ c. c.id) answered_id answered_again answered_short refl refl refl refl refl ac.protocol_version ac.called ac.calling ac.application_context ac.contexts ac.user_information fits.0;
  user_information = user_again ac.user_information fits.0.user_information;
}

length_more : {A : Type 0} (p : Pdv A) (ps : List (Pdv A)) → length (flat_map written_pdv (p ∷ ps)) ≡ 6 + length p.bytes + length (flat_map written_pdv ps)
length_more p ps = omega (arith, length-append p.bytes (flat_map written_pdv ps))

pub pdvs_fit : {A : Type 0} (ps : List (Pdv A)) → length (flat_map written_pdv ps) < 2 ^ 32 → AllByRecursion (λ p. length (pdv_content p) < 2 ^ 32) ps
pdvs_fit [] h = tt
pdvs_fit (p ∷ ps) h = (omega (arith, length_more p ps, h), pdvs_fit ps (omega (arith, length_more p ps, h)))

command_bit : (a b : Bool) → a ≡ (bit_and (cond a 1 0 + cond b 2 0) 1 == 1)
command_bit true true = refl
command_bit true false = refl
command_bit false true = refl
command_bit false false = refl

last_bit : (a b : Bool) → b ≡ (bit_and (cond a 1 0 + cond b 2 0) 2 == 2)
last_bit true true = refl
last_bit true false = refl
last_bit false true = refl
last_bit false false = refl

pdvs_again : {A : Type 0} (ps : List (Pdv A)) → length (flat_map written_pdv ps) < 2 ^ 32 → Each SpellsPdv (flat_map written_pdv ps) ps
pdvs_again [] h = refl
pdvs_again (p ∷ ps) h = (
  flat_map written_pdv ps,
  record {
    fragment = record { context = p.context; control = control_of p; message = p.bytes };
    is = record { is = record { fits = omega (arith, h, length_more p ps); parts = append_assoc (to_be_bytes w32 (length (pdv_content p))) (pdv_content p) (flat_map written_pdv ps) } };
    value = record { context = refl; command = command_bit p.command p.last; last = last_bit p.command p.last; message = refl };
  },
  pdvs_again ps (omega (arith, h, length_more p ps)),
)

pub within : {A : Type 0} (pdu : Pdu A) → Fits pdu → length (written_body pdu) ≤ limit (pdu_kind pdu)
within (AssociateRq rq) h = h.1
within (AssociateAc ac) h = h.1
within (AssociateRj a b c) h = omega arith
within (Data ps) h = h.1
within ReleaseRq h = omega arith
within ReleaseRp h = omega arith
within (Abort a b) h = omega arith

limit_below : (k : PduKind) → limit k < 2 ^ 32
limit_below kinds.AssociateRq = omega arith
limit_below kinds.AssociateAc = omega arith
limit_below kinds.AssociateRj = omega arith
limit_below kinds.Data = omega arith
limit_below kinds.ReleaseRq = omega arith
limit_below kinds.ReleaseRp = omega arith
limit_below kinds.Abort = omega arith

pub written_fits : {A : Type 0} (pdu : Pdu A) → Fits pdu → length (written_body pdu) < 2 ^ 32
written_fits pdu h = omega (arith, within pdu h, limit_below (pdu_kind pdu))

body_again : {A : Type 0} (pdu : Pdu A) → Fits pdu → IsBody (pdu_kind pdu) (written_body pdu) pdu
body_again (AssociateRq rq) h = (refl, rq_again rq h)
body_again (AssociateAc ac) h = (refl, ac_again ac h)
body_again (AssociateRj a b c) h = (refl, 0, refl)
body_again (Data ps) h = (refl, record { some = h.0; each = pdvs_again ps (omega (arith, h.1)) })
body_again ReleaseRq h = (refl, refl)
body_again ReleaseRp h = (refl, refl)
body_again (Abort a b) h = (refl, 0, 0, refl)

-- what is written is spelled
pub written_again : {A : Type 0} (pdu : Pdu A) → Fits pdu → SpellsPdu (written_pdu pdu) pdu
written_again pdu h = record {
  kind = pdu_kind pdu;
  body = written_body pdu;
  whole = record {
    header = record {
      reserved = 0;
      fits = written_fits pdu h;
      parts = ap (λ (t : List ℕ). type_code (pdu_kind pdu) ∷ 0 ∷ to_be_bytes w32 (length (written_body pdu)) ++ t) (sym (append-nil (written_body pdu)));
    };
    within = within pdu h;
  };
  spelled = body_again pdu h;
}
