-- The first fault of bytes that encode no command.
use Rattle.std.specs.Prelude.{◌≡◌, ℕ, ◌⊎◌, List, [], ◌∷◌, Option, Result, Ok, Err}
use Rattle.ups_dataset.specs.declared.tag.Tag.{Tag}
use Rattle.ups_dimse.specs.declared.fault.DimseFault.{DimseFault}
use Rattle.ups_dimse.specs.declared.fault.DimseFault.TheVariants.{BadValue, UnknownField, Memory}
use Rattle.ups_dimse.specs.declared.message.Message.{Message}
use Rattle.ups_dimse.specs.declared.command.Command.{Command}
use Rattle.ups_dimse.specs.Elements.{CommandElement, command_tag, SpellsCommandElements, AreCommandElements}
use Rattle.ups_dimse.specs.Messages.{Need, has_us, may_have_us, may_have_at, field_of, needs}
use Rattle.ups_dimse.specs.Values.{HasUs, UsFails, MayHaveUs, PresentUsFails, HasTags, TagsFail}
use Rattle.ups_dimse.specs.Commands.{SpellsCommand}

-- the elements meet a need of the message
abbrev pub MeetsNeed : List CommandElement → Need → Type 0
MeetsNeed elements (has_us number) = (value : ℕ) × HasUs elements number value
MeetsNeed elements (may_have_us number) = (value : Option ℕ) × MayHaveUs elements number value
MeetsNeed elements (may_have_at number) = (tags : List Tag) × HasTags elements number tags

-- the elements do not meet a need of the message, with this fault
abbrev pub Fails : List CommandElement → Need → DimseFault → Type 0
Fails elements (has_us number) fault = UsFails elements number fault
Fails elements (may_have_us number) fault = PresentUsFails elements number fault
Fails elements (may_have_at number) fault = TagsFail elements number fault

-- one of the needs is not met, and those before it are
abbrev pub FirstFails : List CommandElement → List Need → DimseFault → Type 0
FirstFails elements [] fault = ⊥
FirstFails elements (need ∷ more) fault = Fails elements need fault ⊎ (MeetsNeed elements need × FirstFails elements more fault)

-- The elements are not those of a command: Command Field (0000,0100) fails, its value belongs to no message, or an
-- element of its message fails.
abbrev pub CommandElementsFail : List CommandElement → DimseFault → Type 0
CommandElementsFail elements fault = UsFails elements 0x0100 fault
    ⊎ (((field : ℕ) × HasUs elements 0x0100 field × ((message : Message) → field_of message ≡ field → ⊥) × (fault ≡ UnknownField))
    ⊎ ((message : Message) × HasUs elements 0x0100 (field_of message) × FirstFails elements (needs message) fault))

-- Why no command was read: memory ran out, although the bytes encode a command; or the bytes are not elements, which is
-- BadValue of (0000,0000); or their elements are not those of a command.
abbrev pub IsCommandFault : (A : Type 0) → List ℕ → DimseFault → Type 0
IsCommandFault A bytes fault = ((fault ≡ Memory) × (command : Command A) × SpellsCommand bytes command)
    ⊎ (((AreCommandElements 0 bytes → ⊥) × (fault ≡ BadValue (command_tag 0x0000)))
    ⊎ ((elements : List CommandElement) × SpellsCommandElements 0 bytes elements [] × CommandElementsFail elements fault))

-- The result of reading a part: the part; lack of memory, although the part is there; or a fault.
abbrev pub ReadsOrFails : {X : Type 0} → (X → Type 0) → (DimseFault → Type 0) → Result X DimseFault → Type 0
ReadsOrFails Spelled Fault (Ok x) = Spelled x
ReadsOrFails {X} Spelled Fault (Err fault) = ((fault ≡ Memory) × (x : X) × Spelled x) ⊎ Fault fault
