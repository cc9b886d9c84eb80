-- The UIDs that the service uses (PS3.6 annex A, PS3.4 annex CC).
use Rattle.std.specs.Prelude.{ℕ, List, codes}
use Rattle.ups_pdu.specs.declared.registered.RegisteredUid.{RegisteredUid}
use Rattle.ups_pdu.specs.declared.registered.RegisteredUid.TheVariants.{Verification, UpsPush, UpsWatch, UpsPull, UpsEvent, GlobalSubscription, FilteredGlobalSubscription, ApplicationContext, ImplicitVrLittleEndian, ExplicitVrLittleEndian, Implementation}

abbrev pub text_of : RegisteredUid → List ℕ
text_of Verification = codes "1.2.840.10008.1.1"
text_of UpsPush = codes "1.2.840.10008.5.1.4.34.6.1"
text_of UpsWatch = codes "1.2.840.10008.5.1.4.34.6.2"
text_of UpsPull = codes "1.2.840.10008.5.1.4.34.6.3"
text_of UpsEvent = codes "1.2.840.10008.5.1.4.34.6.4"
text_of GlobalSubscription = codes "1.2.840.10008.5.1.4.34.5"
text_of FilteredGlobalSubscription = codes "1.2.840.10008.5.1.4.34.5.1"
text_of ApplicationContext = codes "1.2.840.10008.3.1.1.1"
text_of ImplicitVrLittleEndian = codes "1.2.840.10008.1.2"
text_of ExplicitVrLittleEndian = codes "1.2.840.10008.1.2.1"
text_of Implementation = codes "2.25.7001"
