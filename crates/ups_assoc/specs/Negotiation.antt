-- The answer to an association request (PS3.8 sections 7.1 and 9.3.2 to 9.3.4).
use Rattle.std.specs.Prelude.{ℕ, ◌%◌, Bool, not, ◌&&◌, ◌||◌, ◌==◌, nat_lt, List, [], map, Option, None, Some, codes, if◌then◌else◌}
use Rattle.std.specs.List.{flat_map}
use Rattle.std.specs.Option.{option_to_list}
use Rattle.ups_pdu.specs.declared.associate.AssociateRq.{AssociateRq}
use Rattle.ups_pdu.specs.declared.associate.AssociateAc.{AssociateAc}
use Rattle.ups_pdu.specs.declared.associate.UserInformation.{UserInformation}
use Rattle.ups_pdu.specs.declared.pdu.Pdu.TheVariants.{AssociateAc as AnswerPdu}
use Rattle.ups_pdu.specs.declared.registered.RegisteredUid.TheVariants.{ApplicationContext, Implementation}
use Rattle.ups_pdu.specs.Registered.{text_of}
use Rattle.ups_pdu.specs.Fits.{Fits}
use Rattle.ups_pdu.specs.Limits.{max_data_length}
use Rattle.ups_assoc.specs.declared.negotiating.AcceptedContext.{AcceptedContext}
use Rattle.ups_assoc.specs.declared.negotiating.Acceptance.{Acceptance}
use Rattle.ups_assoc.specs.declared.negotiating.Outcome.{Outcome}
use Rattle.ups_assoc.specs.declared.negotiating.Outcome.TheVariants.{Accept, Reject}
use Rattle.ups_assoc.specs.declared.negotiating.Rejection.{Rejection}
use Rattle.ups_assoc.specs.declared.negotiating.Rejection.TheVariants.{ProtocolVersionNotSupported, ApplicationContextNotSupported, CalledAeNotRecognized, CallingAeNotRecognized, NoReason}
use Rattle.ups_assoc.specs.Same.{is_same}
use Rattle.ups_assoc.specs.Titles.{title, is_this_title}
use Rattle.ups_assoc.specs.Contexts.{answered, accepted}

-- the result, source and reason of a rejection (PS3.8 table 9-21)
abbrev pub numbers : Rejection → ℕ × ℕ × ℕ
numbers ProtocolVersionNotSupported = (1, 2, 2)
numbers ApplicationContextNotSupported = (1, 1, 2)
numbers CalledAeNotRecognized = (1, 1, 7)
numbers CallingAeNotRecognized = (1, 1, 3)
numbers NoReason = (1, 1, 1)

abbrev pub number_result : Rejection → ℕ
number_result r = (numbers r).0

abbrev pub number_source : Rejection → ℕ
number_source r = (numbers r).1

abbrev pub number_reason : Rejection → ℕ
number_reason r = (numbers r).2

-- the maximum length that is used: 0 means no limit, and never more than the longest P-DATA-TF is used (PS3.8 annex
-- D.1)
abbrev pub counted : ℕ → ℕ
counted max = if max == 0 || nat_lt max_data_length max then max_data_length else max

-- the implementation version name of this server (PS3.7 annex D.3.3.2.4)
abbrev pub version_name : List ℕ
version_name = codes "UPSD_1"

-- the user information about this server (PS3.7 annex D.3.3.2)
abbrev pub this_server : {A : Type 0} → UserInformation A
this_server = record { maximum_length = max_data_length; implementation_class = Some (text_of Implementation); asynchronous_window = None; roles = []; implementation_version = Some version_name }

-- the A-ASSOCIATE-AC: the titles as in the request, and an answer to each presentation context in order
abbrev pub accepting_answer : {A : Type 0} → AssociateRq A → AssociateAc A
accepting_answer request = record {
  protocol_version = 1;
  called = request.called;
  calling = request.calling;
  application_context = text_of ApplicationContext;
  contexts = map answered request.contexts;
  user_information = this_server;
}

abbrev pub accepted_contexts : {A : Type 0} → AssociateRq A → List AcceptedContext
accepted_contexts request = flat_map (λ c. option_to_list (accepted c)) request.contexts

unfoldable pub acceptance : {A : Type 0} → AssociateRq A → List ℕ → Acceptance A
acceptance request calling = record { ac = accepting_answer request; ae = calling; contexts = accepted_contexts request; max = counted request.user_information.maximum_length }

-- whether version 1 is among the protocol versions: bit 0 (PS3.8 table 9-11)
abbrev pub has_version_1 : ℕ → Bool
has_version_1 versions = versions % 2 == 1

-- whether an application context is the DICOM application context (PS3.8 annex A.2.1)
abbrev pub is_dicom : List ℕ → Bool
is_dicom uid = is_same uid (text_of ApplicationContext)

-- a maximum length without room for a fragment of two bytes
abbrev pub is_too_small : ℕ → Bool
is_too_small max = nat_lt 0 max && nat_lt max 8

-- the outcome by the calling AE title, which is None if it is not valid
abbrev pub outcome_for : {A : Type 0} → AssociateRq A → Option (List ℕ) → Outcome A
outcome_for request None = Reject CallingAeNotRecognized
outcome_for request (Some calling) = if is_too_small request.user_information.maximum_length then Reject NoReason else Accept (acceptance request calling)

-- the answer to a request, where `ae` is the title of this application entity
abbrev pub outcome : {A : Type 0} → List ℕ → AssociateRq A → Outcome A
outcome ae request =
    if not (has_version_1 request.protocol_version) then Reject ProtocolVersionNotSupported
    else if not (is_dicom request.application_context) then Reject ApplicationContextNotSupported
    else if not (is_this_title ae request.called) then Reject CalledAeNotRecognized
    else outcome_for request (title request.calling)

-- the answer can be written, if the request is accepted
abbrev pub IsWritable : {A : Type 0} → Outcome A → Type 0
IsWritable (Accept a) = Fits (AnswerPdu a.ac)
IsWritable (Reject r) = Unit {0}
