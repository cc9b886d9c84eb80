-- What is true of each command that a program holds, whatever its bytes: numbers fit in two bytes, and UIDs are valid.
use Rattle.std.specs.Prelude.{◌<◌, ◌^◌, List, IfSome}
use Rattle.std.specs.List.{All}
use Rattle.ups_pdu.specs.Identifier.{IsUid}
use Rattle.ups_dataset.specs.declared.tag.Tag.{Tag}
use Rattle.ups_dimse.specs.declared.command.Command.{Command}
use Rattle.ups_dimse.specs.declared.command.Command.TheVariants.{Request, Response, Cancel}
use Rattle.ups_dimse.specs.declared.command.RequestCommand.{RequestCommand}
use Rattle.ups_dimse.specs.declared.command.ResponseCommand.{ResponseCommand}
use Rattle.ups_dimse.specs.declared.command.CancelCommand.{CancelCommand}
use Rattle.ups_dimse.specs.declared.command.Operation.{Operation}
use Rattle.ups_dimse.specs.declared.command.Operation.TheVariants as operations
use Rattle.ups_dimse.specs.declared.command.OperationResult.{OperationResult}
use Rattle.ups_dimse.specs.declared.command.OperationResult.TheVariants as results
use Rattle.ups_dimse.specs.Written.{priority_of}

-- a tag
pub record IsHeldTag (tag : Tag) : Type 0 where
  pub group_fits : tag.group < 2 ^ 16
  pub element_fits : tag.element < 2 ^ 16

-- tags
abbrev pub AreHeldTags : List Tag → Type 0
AreHeldTags tags = All IsHeldTag tags

-- the values of an operation, except its priority
abbrev pub IsHeldOperation : {A : Type 0} → Operation A → Type 0
IsHeldOperation (operations.EventReport instance event) = IfSome instance IsUid × (event < 2 ^ 16)
IsHeldOperation (operations.Create instance) = IfSome instance IsUid
IsHeldOperation (operations.Get instance attributes) = IfSome instance IsUid × AreHeldTags attributes
IsHeldOperation (operations.Set instance) = IfSome instance IsUid
IsHeldOperation (operations.Action instance action) = IfSome instance IsUid × (action < 2 ^ 16)
IsHeldOperation operations.Echo = Unit {0}
IsHeldOperation (operations.Find priority) = Unit {0}

-- the values of a result
abbrev pub IsHeldResult : OperationResult → Type 0
IsHeldResult (results.EventReport instance event) = IfSome instance IsUid × IfSome event (λ e. e < 2 ^ 16)
IsHeldResult (results.Create instance) = IfSome instance IsUid
IsHeldResult (results.Get instance) = IfSome instance IsUid
IsHeldResult (results.Set instance) = IfSome instance IsUid
IsHeldResult (results.Action instance action) = IfSome instance IsUid × (action < 2 ^ 16)
IsHeldResult results.Echo = Unit {0}
IsHeldResult results.Find = Unit {0}

-- a request
pub record IsHeldRequest {A : Type 0} (request : RequestCommand A) : Type 0 where
  pub sop_class : IfSome request.sop_class IsUid
  pub message_id : request.message_id < 2 ^ 16
  pub priority : IfSome (priority_of request.operation) (λ p. p < 2 ^ 16)
  pub operation : IsHeldOperation request.operation

-- a response
pub record IsHeldResponse (response : ResponseCommand) : Type 0 where
  pub sop_class : IfSome response.sop_class IsUid
  pub responded_to : response.responded_to < 2 ^ 16
  pub status : response.status < 2 ^ 16
  pub operation : IsHeldResult response.result

-- a request to cancel an operation
pub record IsHeldCancel (cancel : CancelCommand) : Type 0 where
  pub responded_to : cancel.responded_to < 2 ^ 16

-- a command
abbrev pub IsHeld : {A : Type 0} → Command A → Type 0
IsHeld (Request request) = IsHeldRequest request
IsHeld (Response response) = IsHeldResponse response
IsHeld (Cancel cancel) = IsHeldCancel cancel
