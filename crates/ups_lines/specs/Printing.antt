-- Values and attributes as words.
use Rattle.std.specs.Prelude.{ℕ, ◌+◌, ◌/◌, ◌%◌, ◌==◌, nat_lt, nat_le, Bool, true, not, ◌&&◌, ◌||◌, List, [], ◌∷◌, ◌++◌, if◌then◌else◌}
use Rattle.std.specs.Fmt.{decimal}
use Rattle.std.specs.Int.{w16, to_be_bytes}
use Rattle.std.specs.List.{flat_map}
use Rattle.ups_pdu.specs.Padding.{without_padding}
use Rattle.ups_dataset.specs.declared.tag.Tag.{Tag}
use Rattle.ups_dataset.specs.Data.{Data, bytes, items, Items, no_items, item, Elements, no_elements, element, El, elements_of}

-- a hex digit in upper case, and the digits of a byte, of two bytes and of a tag
abbrev pub hex_digit : ℕ → ℕ
hex_digit value = if nat_lt value 10 then 48 + value else 55 + value

abbrev pub hex_byte : ℕ → List ℕ
hex_byte byte = hex_digit (byte / 16) ∷ hex_digit (byte % 16) ∷ []

abbrev pub hex_word : ℕ → List ℕ
hex_word word = flat_map hex_byte (to_be_bytes w16 word)

abbrev pub hex_tag : Tag → List ℕ
hex_tag tag = hex_word tag.group ++ hex_word tag.element

-- a visible character that has no meaning of its own in a reply: no %, [ or ]
abbrev pub is_plain : ℕ → Bool
is_plain byte = nat_le 33 byte && nat_le byte 126 && not (byte == 37 || byte == 91 || byte == 93)

-- a byte: itself, or % and its hex digits
abbrev pub printed_byte : ℕ → List ℕ
printed_byte byte = if is_plain byte then byte ∷ [] else 37 ∷ hex_byte byte

-- a value, without the padding at its end
abbrev pub printed : List ℕ → List ℕ
printed value = flat_map printed_byte (without_padding value)

-- the way into an item of a sequence: a slash for the first, otherwise a full stop, its number and a slash
abbrev pub into_item : ℕ → List ℕ
into_item number = if number == 1 then 47 ∷ [] else (46 ∷ decimal number) ++ (47 ∷ [])

abbrev pub way_into : List ℕ → Tag → ℕ → List ℕ
way_into way tag number = (way ++ hex_tag tag) ++ into_item number

-- an attribute with bytes as its value
abbrev pub word : List ℕ → Tag → List ℕ → List ℕ
word way tag value = (way ++ hex_tag tag) ++ (61 ∷ printed value)

-- the attributes in a value, in items from a number on, and in a set: each value with the way to it; a sequence without items
-- is printed as an attribute without a value
abbrev mutual
  pub words_data : List ℕ → Tag → Data → List (List ℕ)
  words_data way tag (bytes b) = word way tag b ∷ []
  words_data way tag (items no_items) = word way tag [] ∷ []
  words_data way tag (items (item es more)) = words_elements (way_into way tag 1) es ++ words_items way tag 2 more

  pub words_items : List ℕ → Tag → ℕ → Items → List (List ℕ)
  words_items way tag number no_items = []
  words_items way tag number (item es more) = words_elements (way_into way tag number) es ++ words_items way tag (number + 1) more

  pub words_elements : List ℕ → Elements → List (List ℕ)
  words_elements way no_elements = []
  words_elements way (element tag vr d more) = words_data way tag d ++ words_elements way more

abbrev pub words : List ℕ → List El → List (List ℕ)
words way set = words_elements way (elements_of set)

-- words with a space between each two, and a space before the first if it follows something
abbrev pub spaced : Bool → List (List ℕ) → List ℕ
spaced follows [] = []
spaced follows (w ∷ ws) = (if follows then 32 ∷ w else w) ++ spaced true ws

-- whether text after these words follows something
abbrev pub follows_after : Bool → List (List ℕ) → Bool
follows_after follows [] = follows
follows_after follows (w ∷ ws) = true
