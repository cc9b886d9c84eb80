-- An element that bytes make.
use Rattle.std.proofs.Common.{◌≡◌, ℕ, ◌%◌, ◌+◌, List, ◌++◌, length, refl, sym, ap, ◌∙◌, append_assoc, arith}
use Rattle.ups_dataset.specs.declared.tag.Tag.{Tag}
use Rattle.ups_dataset.specs.declared.vr.Vr.{Vr}
use Rattle.ups_pdu.specs.declared.syntax.TransferSyntax.TheVariants.{Explicit}
use Rattle.ups_dataset.specs.Written.{written_head, written_element}
use Rattle.ups_lines.specs.Forms.{vr_for, padded_value, element_for}

-- bytes of an even length are not padded
unpadded : (vr : Vr) (text : List ℕ) → length text % 2 ≡ 0 → padded_value vr text ≡ text
unpadded vr text even = rw even refl

-- the header and the bytes, where these need no padding
pub even_element : (tag : Tag) (bytes before headed after : List ℕ) (len size : ℕ) → len ≡ length bytes → len % 2 ≡ 0 → size ≡ len + len % 2
    → headed ≡ before ++ written_head Explicit tag (vr_for tag len) size → after ≡ headed ++ bytes → after ≡ before ++ written_element Explicit (element_for tag bytes)
even_element tag bytes before headed after len size is even sum head text =
    let vr = vr_for tag (length bytes) in
    let e : length bytes % 2 ≡ 0 = ap (λ n. n % 2) (sym is) ∙ even in
    let s : size ≡ length bytes = omega (arith, is, sum, even) in
    text ∙ ap (λ l. l ++ bytes) head ∙ append_assoc before (written_head Explicit tag (vr_for tag len) size) bytes
    ∙ ap (λ n. before ++ (written_head Explicit tag (vr_for tag n) size ++ bytes)) is ∙ ap (λ n. before ++ (written_head Explicit tag vr n ++ bytes)) s
    ∙ ap (λ (p : List ℕ). before ++ (written_head Explicit tag vr (length p) ++ p)) (sym (unpadded vr bytes e))
