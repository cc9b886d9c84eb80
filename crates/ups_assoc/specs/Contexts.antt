-- The answer to a proposed presentation context (PS3.8 section 9.3.3.2).
use Rattle.std.specs.Prelude.{ℕ, List, [], ◌∷◌, Option, None, Some, if◌then◌else◌}
use Rattle.ups_pdu.specs.declared.associate.ProposedContext.{ProposedContext}
use Rattle.ups_pdu.specs.declared.associate.AnsweredContext.{AnsweredContext}
use Rattle.ups_pdu.specs.declared.associate.ContextAnswer.{ContextAnswer}
use Rattle.ups_pdu.specs.declared.associate.ContextAnswer.TheVariants.{Accepted, Refused}
use Rattle.ups_pdu.specs.declared.registered.RegisteredUid.TheVariants.{ImplicitVrLittleEndian, ExplicitVrLittleEndian}
use Rattle.ups_pdu.specs.Registered.{text_of}
use Rattle.ups_pdu.specs.declared.syntax.TransferSyntax.{TransferSyntax}
use Rattle.ups_pdu.specs.declared.syntax.TransferSyntax.TheVariants.{Implicit, Explicit}
use Rattle.ups_assoc.specs.declared.sop_class.SopClass.{SopClass}
use Rattle.ups_assoc.specs.declared.negotiating.AcceptedContext.{AcceptedContext}
use Rattle.ups_assoc.specs.Same.{is_same}
use Rattle.ups_assoc.specs.Classes.{class_of}

-- the transfer syntaxes that are supported (PS3.5 annexes A.1 and A.2)
abbrev pub syntax_uid : TransferSyntax → List ℕ
syntax_uid Implicit = text_of ImplicitVrLittleEndian
syntax_uid Explicit = text_of ExplicitVrLittleEndian

abbrev pub known_syntax : List ℕ → Option TransferSyntax
known_syntax uid = if is_same uid (syntax_uid Implicit) then Some Implicit else if is_same uid (syntax_uid Explicit) then Some Explicit else None

-- the first supported transfer syntax that is proposed
abbrev pub or_first : Option TransferSyntax → Option TransferSyntax → Option TransferSyntax
or_first (Some syntax) later = Some syntax
or_first None later = later

abbrev pub first_syntax : List (List ℕ) → Option TransferSyntax
first_syntax [] = None
first_syntax (uid ∷ uids) = or_first (known_syntax uid) (first_syntax uids)

-- A context is refused with 3 if its abstract syntax is none of the SOP classes, and with 4 if it has no supported
-- transfer syntax. Otherwise it is accepted with the first supported one proposed.
abbrev pub answer_of : Option SopClass → Option TransferSyntax → ContextAnswer
answer_of None syntax = Refused 3
answer_of (Some class) None = Refused 4
answer_of (Some class) (Some syntax) = Accepted (syntax_uid syntax)

unfoldable pub context_answer : {A : Type 0} → ProposedContext A → ContextAnswer
context_answer proposed = answer_of (class_of proposed.abstract_syntax) (first_syntax proposed.transfer_syntaxes)

abbrev pub answered : {A : Type 0} → ProposedContext A → AnsweredContext
answered proposed = record { id = proposed.id; answer = context_answer proposed }

-- the accepted presentation context, if it is accepted
abbrev pub context_of : ℕ → Option SopClass → Option TransferSyntax → Option AcceptedContext
context_of id None syntax = None
context_of id (Some class) None = None
context_of id (Some class) (Some syntax) = Some (record { id = id; sop_class = class; transfer_syntax = syntax })

unfoldable pub accepted : {A : Type 0} → ProposedContext A → Option AcceptedContext
accepted proposed = context_of proposed.id (class_of proposed.abstract_syntax) (first_syntax proposed.transfer_syntaxes)
