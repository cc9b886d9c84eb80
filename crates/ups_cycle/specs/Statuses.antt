-- The statuses: which of them mean done, and their numbers (PS3.7 annex C, PS3.4 CC.2 and section C.4.1.1.4).
use Rattle.std.specs.Prelude.{Bool, true, false, ℕ}
use Rattle.ups_cycle.specs.declared.status.Status.{Status}
use Rattle.ups_cycle.specs.declared.status.Status.TheVariants.{Success, AttributesNotSupported, InvalidAttributeValue, ProcessingFailure, DuplicateSopInstance, NoSuchArgument, InvalidArgumentValue, InvalidObjectInstance, NoSuchSopClass, MissingAttribute, MissingAttributeValue, NoSuchActionType, UnrecognizedOperation, ResourceLimitation, OutOfResources, IdentifierMismatch, DeletionLockNotGranted, AlreadyCanceled, AlreadyCompleted, UnableToProcess, NoLongerUpdatable, WrongTransactionUid, AlreadyInProgress, ScheduledByCreateAlone, FinalStateNotMet, UnknownInstance, UnknownReceivingAe, NotScheduled, NotInProgress, TooLateToCancel, ActionNotAppropriate, Pending}

-- the request is done, possibly without the Deletion Lock that it asks for
abbrev pub is_done : Status → Bool
is_done Success = true
is_done DeletionLockNotGranted = true
is_done status = false

-- the number of a status in a response
abbrev pub code : Status → ℕ
code Success = 0x0000
code AttributesNotSupported = 0x0001
code InvalidAttributeValue = 0x0106
code ProcessingFailure = 0x0110
code DuplicateSopInstance = 0x0111
code NoSuchArgument = 0x0114
code InvalidArgumentValue = 0x0115
code InvalidObjectInstance = 0x0117
code NoSuchSopClass = 0x0118
code MissingAttribute = 0x0120
code MissingAttributeValue = 0x0121
code NoSuchActionType = 0x0123
code UnrecognizedOperation = 0x0211
code ResourceLimitation = 0x0213
code OutOfResources = 0xA700
code IdentifierMismatch = 0xA900
code DeletionLockNotGranted = 0xB301
code AlreadyCanceled = 0xB304
code AlreadyCompleted = 0xB306
code UnableToProcess = 0xC000
code NoLongerUpdatable = 0xC300
code WrongTransactionUid = 0xC301
code AlreadyInProgress = 0xC302
code ScheduledByCreateAlone = 0xC303
code FinalStateNotMet = 0xC304
code UnknownInstance = 0xC307
code UnknownReceivingAe = 0xC308
code NotScheduled = 0xC309
code NotInProgress = 0xC310
code TooLateToCancel = 0xC311
code ActionNotAppropriate = 0xC314
code Pending = 0xFF00
