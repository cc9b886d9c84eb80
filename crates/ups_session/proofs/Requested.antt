-- The request for an association can be written.
use Rattle.std.proofs.Common.{◌≡◌, ℕ, ◌-◌, ◌≤◌, List, [], ◌∷◌, ◌++◌, length, refl, arith}
use Rattle.std.specs.Prelude.{replicate}
use Rattle.std.proofs.lemmas.List.{length-append, length-replicate}
use Rattle.ups_pdu.specs.declared.associate.ProposedContext.{ProposedContext}
use Rattle.ups_pdu.specs.declared.pdu.Pdu.TheVariants.{AssociateRq}
use Rattle.ups_pdu.specs.declared.registered.RegisteredUid.TheVariants.{UpsEvent, ApplicationContext, ImplicitVrLittleEndian, ExplicitVrLittleEndian, Implementation}
use Rattle.ups_pdu.specs.Registered.{text_of}
use Rattle.ups_pdu.specs.Identifier.{IsUid}
use Rattle.ups_pdu.specs.Written.{associate_head, associate_items, user_content, role_content, proposed_content, written_item}
use Rattle.ups_pdu.specs.Fits.{Fits, FitsProposed, FitsUser}
use Rattle.ups_assoc.specs.Negotiation.{this_server}
use Rattle.ups_session.specs.Proposing.{padded_title, event_context, proposed_information, association_request}

uid_event : IsUid (text_of UpsEvent)
uid_event = record { some = omega (arith); short = omega (arith); components = refl }

uid_application : IsUid (text_of ApplicationContext)
uid_application = record { some = omega (arith); short = omega (arith); components = refl }

uid_implicit : IsUid (text_of ImplicitVrLittleEndian)
uid_implicit = record { some = omega (arith); short = omega (arith); components = refl }

uid_explicit : IsUid (text_of ExplicitVrLittleEndian)
uid_explicit = record { some = omega (arith); short = omega (arith); components = refl }

uid_implementation : IsUid (text_of Implementation)
uid_implementation = record { some = omega (arith); short = omega (arith); components = refl }

title_length : (ae : List ℕ) → length ae ≤ 16 → length (padded_title ae) ≡ 16
title_length ae short = omega (arith, short, length-append ae (replicate (16 - length ae) 32), length-replicate {A = ℕ} (16 - length ae) 32)

context_length : (A : Type 0) → length (proposed_content (event_context {A = A})) ≡ 78
unfolding proposed_content written_item
context_length A = refl

context_fits : (A : Type 0) → FitsProposed (event_context {A = A})
context_fits A = record {
  abstract_syntax = uid_event;
  transfer_syntaxes = (uid_explicit, (uid_implicit, tt));
  some = λ e. absurd cc;
  short = omega (arith, context_length A);
}

user_length : (A : Type 0) → length (user_content (proposed_information (this_server {A = A}))) ≡ 65
unfolding user_content role_content written_item
user_length A = refl

user_fits : (A : Type 0) → FitsUser (proposed_information (this_server {A = A}))
user_fits A = record {
  maximum_length = omega (arith);
  implementation_class = (uid_implementation, tt);
  asynchronous_window = tt;
  roles = (uid_event, tt);
  implementation_version = (omega (arith), tt);
  short = omega (arith, user_length A);
}

abbrev written_context : {A : Type 0} → ProposedContext A → List ℕ
written_context c = written_item 0x20 (proposed_content c)

items_length : (A : Type 0) → length (associate_items (text_of ApplicationContext) (written_context {A = A}) (event_context ∷ []) (proposed_information (this_server {A = A}))) ≡ 176
unfolding associate_items user_content role_content proposed_content written_item
items_length A = refl

zeros : length {A = ℕ} (replicate 32 0) ≡ 32
zeros = refl

head_length : (called calling : List ℕ) → length called ≡ 16 → length calling ≡ 16 → length (associate_head 1 called calling) ≡ 68
unfolding associate_head
head_length called calling h k = omega (arith, h, k, length-append called (calling ++ replicate 32 0), length-append calling (replicate 32 0), zeros)

-- the titles have at most 16 bytes
pub request_fits : (A : Type 0) (calling called : List ℕ) → length calling ≤ 16 → length called ≤ 16 → Fits (AssociateRq (association_request {A = A} calling called))
unfolding association_request
request_fits A calling called h k =
    let items : List ℕ = associate_items (text_of ApplicationContext) (written_context {A = A}) (event_context ∷ []) (proposed_information (this_server {A = A})) in (
      record {
        protocol_version = omega (arith);
        called_title = title_length called k;
        calling_title = title_length calling h;
        application_context = uid_application;
        each_context = (context_fits A, tt);
        some = λ e. absurd cc;
        odd_and_different = refl;
        user_information = user_fits A;
      },
      omega (
        arith,
        items_length A,
        head_length (padded_title called) (padded_title calling) (title_length called k) (title_length calling h),
        length-append (associate_head 1 (padded_title called) (padded_title calling)) items,
      ),
    )
