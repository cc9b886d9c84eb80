-- The registered UIDs have no padding.
use Rattle.std.proofs.Common.{◌≡◌, refl}
use Rattle.ups_pdu.specs.declared.registered.RegisteredUid.{RegisteredUid}
use Rattle.ups_pdu.specs.declared.registered.RegisteredUid.TheVariants.{Verification, UpsPush, UpsWatch, UpsPull, UpsEvent, GlobalSubscription, FilteredGlobalSubscription, ApplicationContext, ImplicitVrLittleEndian, ExplicitVrLittleEndian, Implementation}
use Rattle.ups_pdu.specs.Padding.{without_padding}
use Rattle.ups_pdu.specs.Registered.{text_of}

pub without_padding-text_of : (r : RegisteredUid) → without_padding (text_of r) ≡ text_of r
without_padding-text_of Verification = refl
without_padding-text_of UpsPush = refl
without_padding-text_of UpsWatch = refl
without_padding-text_of UpsPull = refl
without_padding-text_of UpsEvent = refl
without_padding-text_of GlobalSubscription = refl
without_padding-text_of FilteredGlobalSubscription = refl
without_padding-text_of ApplicationContext = refl
without_padding-text_of ImplicitVrLittleEndian = refl
without_padding-text_of ExplicitVrLittleEndian = refl
without_padding-text_of Implementation = refl
