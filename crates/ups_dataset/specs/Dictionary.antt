-- The attributes that the service uses, and the value representation of each tag (PS3.6 section 6).
use Rattle.std.specs.Prelude.{ℕ, List, [], ◌∷◌, if◌then◌else◌}
use Rattle.ups_dataset.specs.declared.dictionary.Attribute.{Attribute}
use Rattle.ups_dataset.specs.declared.tag.Tag.{Tag}
use Rattle.ups_dataset.specs.declared.vr.Vr.{Vr}
use Rattle.ups_dataset.specs.declared.vr.Vr.TheVariants.{Ae, Cs, Da, Ds, Dt, Lo, Lt, Pn, Sh, Sq, St, Ui, Un, Ur}
use Rattle.ups_dataset.specs.Tag.{is_tag}

-- the attribute with a group and an element
abbrev pub attribute : ℕ → ℕ → Vr → Attribute
attribute group element vr = record { tag = record { group = group; element = element }; vr = vr }

-- the dictionary, in order of tags
abbrev pub dictionary : List Attribute
dictionary =
    attribute 0x0008 0x0005 Cs ∷  -- Specific Character Set
    attribute 0x0008 0x0016 Ui ∷  -- SOP Class UID
    attribute 0x0008 0x0018 Ui ∷  -- SOP Instance UID
    attribute 0x0008 0x0050 Sh ∷  -- Accession Number
    attribute 0x0008 0x0054 Ae ∷  -- Retrieve AE Title
    attribute 0x0008 0x0090 Pn ∷  -- Referring Physician's Name
    attribute 0x0008 0x0100 Sh ∷  -- Code Value
    attribute 0x0008 0x0102 Sh ∷  -- Coding Scheme Designator
    attribute 0x0008 0x0103 Sh ∷  -- Coding Scheme Version
    attribute 0x0008 0x0104 Lo ∷  -- Code Meaning
    attribute 0x0008 0x1150 Ui ∷  -- Referenced SOP Class UID
    attribute 0x0008 0x1155 Ui ∷  -- Referenced SOP Instance UID
    attribute 0x0008 0x1195 Ui ∷  -- Transaction UID
    attribute 0x0008 0x1199 Sq ∷  -- Referenced SOP Sequence
    attribute 0x0010 0x0010 Pn ∷  -- Patient's Name
    attribute 0x0010 0x0020 Lo ∷  -- Patient ID
    attribute 0x0010 0x0021 Lo ∷  -- Issuer of Patient ID
    attribute 0x0010 0x0030 Da ∷  -- Patient's Birth Date
    attribute 0x0010 0x0040 Cs ∷  -- Patient's Sex
    attribute 0x0020 0x000d Ui ∷  -- Study Instance UID
    attribute 0x0020 0x000e Ui ∷  -- Series Instance UID
    attribute 0x0032 0x1060 Lo ∷  -- Requested Procedure Description
    attribute 0x0038 0x0010 Lo ∷  -- Admission ID
    attribute 0x0040 0x1001 Sh ∷  -- Requested Procedure ID
    attribute 0x0040 0x4005 Dt ∷  -- Scheduled Procedure Step Start DateTime
    attribute 0x0040 0x4009 Sq ∷  -- Human Performer Code Sequence
    attribute 0x0040 0x4010 Dt ∷  -- Scheduled Procedure Step Modification DateTime
    attribute 0x0040 0x4011 Dt ∷  -- Expected Completion DateTime
    attribute 0x0040 0x4018 Sq ∷  -- Scheduled Workitem Code Sequence
    attribute 0x0040 0x4019 Sq ∷  -- Performed Workitem Code Sequence
    attribute 0x0040 0x4021 Sq ∷  -- Input Information Sequence
    attribute 0x0040 0x4025 Sq ∷  -- Scheduled Station Name Code Sequence
    attribute 0x0040 0x4026 Sq ∷  -- Scheduled Station Class Code Sequence
    attribute 0x0040 0x4027 Sq ∷  -- Scheduled Station Geographic Location Code Sequence
    attribute 0x0040 0x4028 Sq ∷  -- Performed Station Name Code Sequence
    attribute 0x0040 0x4029 Sq ∷  -- Performed Station Class Code Sequence
    attribute 0x0040 0x4030 Sq ∷  -- Performed Station Geographic Location Code Sequence
    attribute 0x0040 0x4033 Sq ∷  -- Output Information Sequence
    attribute 0x0040 0x4034 Sq ∷  -- Scheduled Human Performers Sequence
    attribute 0x0040 0x4035 Sq ∷  -- Actual Human Performers Sequence
    attribute 0x0040 0x4036 Lo ∷  -- Human Performer's Organization
    attribute 0x0040 0x4037 Pn ∷  -- Human Performer's Name
    attribute 0x0040 0x4041 Cs ∷  -- Input Readiness State
    attribute 0x0040 0x4050 Dt ∷  -- Performed Procedure Step Start DateTime
    attribute 0x0040 0x4051 Dt ∷  -- Performed Procedure Step End DateTime
    attribute 0x0040 0x4052 Dt ∷  -- Procedure Step Cancellation DateTime
    attribute 0x0040 0xa370 Sq ∷  -- Referenced Request Sequence
    attribute 0x0040 0xe020 Cs ∷  -- Type of Instances
    attribute 0x0074 0x1000 Cs ∷  -- Procedure Step State
    attribute 0x0074 0x1002 Sq ∷  -- Procedure Step Progress Information Sequence
    attribute 0x0074 0x1004 Ds ∷  -- Procedure Step Progress
    attribute 0x0074 0x1006 St ∷  -- Procedure Step Progress Description
    attribute 0x0074 0x1008 Sq ∷  -- Procedure Step Communications URI Sequence
    attribute 0x0074 0x100a Ur ∷  -- Contact URI
    attribute 0x0074 0x100c Lo ∷  -- Contact Display Name
    attribute 0x0074 0x100e Sq ∷  -- Procedure Step Discontinuation Reason Code Sequence
    attribute 0x0074 0x1200 Cs ∷  -- Scheduled Procedure Step Priority
    attribute 0x0074 0x1202 Lo ∷  -- Worklist Label
    attribute 0x0074 0x1204 Lo ∷  -- Procedure Step Label
    attribute 0x0074 0x1210 Sq ∷  -- Scheduled Processing Parameters Sequence
    attribute 0x0074 0x1212 Sq ∷  -- Performed Processing Parameters Sequence
    attribute 0x0074 0x1216 Sq ∷  -- Unified Procedure Step Performed Procedure Sequence
    attribute 0x0074 0x1224 Sq ∷  -- Replaced Procedure Step Sequence
    attribute 0x0074 0x1230 Lo ∷  -- Deletion Lock
    attribute 0x0074 0x1234 Ae ∷  -- Receiving AE
    attribute 0x0074 0x1236 Ae ∷  -- Requesting AE
    attribute 0x0074 0x1238 Lt ∷  -- Reason for Cancellation
    []

-- the value representation of a tag in a table; Unknown if it is not there
abbrev pub vr_in : List Attribute → Tag → Vr
vr_in [] tag = Un
vr_in (a ∷ more) tag = if is_tag a.tag tag then a.vr else vr_in more tag

-- the value representation of a tag in the dictionary
unfoldable pub vr_of : Tag → Vr
vr_of tag = vr_in dictionary tag
