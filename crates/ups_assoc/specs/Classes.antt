-- The SOP classes for which a presentation context may be accepted (PS3.6 annex A).
use Rattle.std.specs.Prelude.{ℕ, List, [], ◌∷◌, Option, None, Some, if◌then◌else◌}
use Rattle.ups_pdu.specs.declared.registered.RegisteredUid.{RegisteredUid}
use Rattle.ups_pdu.specs.declared.registered.RegisteredUid.TheVariants as registered
use Rattle.ups_pdu.specs.Registered.{text_of}
use Rattle.ups_assoc.specs.Same.{is_same}
use Rattle.ups_assoc.specs.declared.sop_class.SopClass.{SopClass}
use Rattle.ups_assoc.specs.declared.sop_class.SopClass.TheVariants.{Verification, UpsPush, UpsPull, UpsWatch, UpsEvent}

abbrev pub registered_of : SopClass → RegisteredUid
registered_of Verification = registered.Verification
registered_of UpsPush = registered.UpsPush
registered_of UpsPull = registered.UpsPull
registered_of UpsWatch = registered.UpsWatch
registered_of UpsEvent = registered.UpsEvent

-- the UID of a SOP class
abbrev pub uid_of : SopClass → List ℕ
uid_of class = text_of (registered_of class)

-- the SOP class with this UID, if it is among these
abbrev pub class_among : List SopClass → List ℕ → Option SopClass
class_among [] uid = None
class_among (c ∷ cs) uid = if is_same uid (uid_of c) then Some c else class_among cs uid

abbrev pub class_of : List ℕ → Option SopClass
class_of uid = class_among (Verification ∷ UpsPush ∷ UpsPull ∷ UpsWatch ∷ UpsEvent ∷ []) uid
