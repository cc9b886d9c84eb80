-- A header, and what was read behind it.
use Rattle.std.proofs.Common.{◌≡◌, ℕ, ◌+◌, ◌≤◌, ◌<◌, ◌∷◌, List, [], refl, ◌++◌, length, take, ap, sym, ◌∙◌, subst, append_assoc, append-nil, arith, inl, inr, length-take-le, Bool, true, false, Result, Ok, Err}
use Rattle.std.specs.Prelude.{◌≢◌}
use Rattle.std.proofs.lemmas.List.{length-append, take_all}
use lib.Seq.{take-append-le}
use Rattle.std.specs.Int.{w32, to_be_bytes}
use Rattle.ups_pdu.specs.declared.kind.PduKind.{PduKind}
use Rattle.ups_pdu.specs.declared.pdu.Pdu.{Pdu}
use Rattle.ups_pdu.specs.declared.fault.PduFault.{PduFault}
use Rattle.ups_pdu.specs.declared.fault.PduFault.TheVariants as faults
use Rattle.ups_pdu.specs.Header.{type_code, limit, IsHeader, IsWhole}
use Rattle.ups_pdu.specs.Spelling.{IsFront, SpellsPdu, IsFault}
use Rattle.ups_pdu.proofs.Whole.{one_whole}
use Rattle.ups_session.specs.WatchedIo.{Input, HasEnded}
use Rattle.ups_session.specs.declared.watched_io.LastRead.TheVariants.{Failed}
use Rattle.ups_session.specs.declared.fault.SessionFault.{SessionFault}
use Rattle.ups_session.specs.declared.fault.SessionFault.TheVariants.{Memory}
use Rattle.ups_session.specs.declared.pdu_io.PduRead.{PduRead}
use Rattle.ups_session.specs.declared.pdu_io.PduRead.TheVariants as reads
use Rattle.ups_session.specs.Broken.{IsBadPdu, IsLost}
use Rattle.ups_session.specs.Reading.{IsComplete, IsCutOff, IsRead}

header_more : (bytes more : List ℕ) (byte n : ℕ) (rest : List ℕ) → IsHeader bytes byte n rest → IsHeader (bytes ++ more) byte n (rest ++ more)
header_more bytes more byte n rest h = record {
  reserved = h.reserved;
  fits = h.fits;
  parts = ap (λ (l : List ℕ). l ++ more) h.parts ∙ ap (λ (l : List ℕ). byte ∷ h.reserved ∷ l) (append_assoc (to_be_bytes w32 n) rest more);
}

four : (n : ℕ) → length (to_be_bytes w32 n) ≡ 4
four n = refl

header_length : (bytes : List ℕ) (byte n : ℕ) (rest : List ℕ) → IsHeader bytes byte n rest → length bytes ≡ 6 + length rest
header_length bytes byte n rest h = omega (arith, ap length h.parts, length-append (to_be_bytes w32 n) rest, four n)

-- six bytes are a header and nothing else
no_more : (bytes : List ℕ) (byte n : ℕ) (rest : List ℕ) → length bytes ≡ 6 → IsHeader bytes byte n rest → length rest ≡ 0
no_more bytes byte n rest six h = omega (arith, header_length bytes byte n rest h, six)

is_nothing : (rest : List ℕ) → length rest ≡ 0 → rest ≡ []
is_nothing [] e = refl
is_nothing (b ∷ bs) e = absurd (omega (arith, e))

pub cut_short : (A : Type 0) (input body : List ℕ) (kind : PduKind) (n : ℕ) (rest : List ℕ) → length input ≡ 6 → IsHeader input (type_code kind) n rest → n ≤ limit kind → length body < n → IsFault A (input ++ body) faults.Short
cut_short A input body kind n rest six h within short =
    inr (kind, n, rest ++ body, header_more input body (type_code kind) n rest h, within, omega (arith, short, no_more input (type_code kind) n rest six h, length-append rest body))

-- a header and its whole body
pub whole_body : (input body : List ℕ) (kind : PduKind) (n : ℕ) (rest : List ℕ) → length input ≡ 6 → IsHeader input (type_code kind) n rest → n ≤ limit kind → length body ≡ n → IsWhole (input ++ body) kind body []
whole_body input body kind n rest six h within len =
    let more : IsHeader (input ++ body) (type_code kind) n (rest ++ body) = header_more input body (type_code kind) n rest h in
    let none : rest ++ body ≡ body ++ [] = ap (λ (l : List ℕ). l ++ body) (is_nothing rest (no_more input (type_code kind) n rest six h)) ∙ sym (append-nil body) in
    record {
      header = subst (λ (m : ℕ). IsHeader (input ++ body) (type_code kind) m (body ++ [])) (sym len) (subst (λ (l : List ℕ). IsHeader (input ++ body) (type_code kind) n l) none more);
      within = subst (λ (m : ℕ). m ≤ limit kind) (sym len) within;
    }

-- what is at the front of the bytes of one PDU is all of them
pub decoded_pdu : {A : Type 0} (bytes : List ℕ) (n : ℕ) (pdu : Pdu A) → IsComplete bytes → IsFront bytes pdu n → SpellsPdu bytes pdu
decoded_pdu bytes n pdu (kind, body, whole) front =
    let same = one_whole bytes front.kind kind front.body body front.rest [] front.whole whole in
    record { kind = front.kind; body = front.body; whole = subst (λ (l : List ℕ). IsWhole bytes front.kind front.body l) same.2 front.whole; spelled = front.spelled }

-- the bytes of one PDU that can't be read
pub decoded_bad : (A : Type 0) (bytes : List ℕ) (fault : PduFault) → IsComplete bytes → fault ≢ faults.Memory → IsFault A bytes fault → IsBadPdu A bytes fault
decoded_bad A bytes fault (kind, body, whole) other f = inr (record { kind = kind; body = body; whole = whole; other = other; fails = f })

-- the bytes of one PDU for which memory ran out
pub decoded_lost : (A : Type 0) (bytes : List ℕ) → IsComplete bytes → IsFault A bytes faults.Memory → IsLost A bytes
decoded_lost A bytes complete (pdu, n, front) = inr (pdu, decoded_pdu bytes n pdu complete front)

pub taken_whole : (n : ℕ) (xs ys : List ℕ) → n ≡ length xs → take n (xs ++ ys) ≡ xs
taken_whole n xs ys e = take-append-le n xs ys (omega (arith, e)) ∙ take_all n xs (omega (arith, e))

pub filled_length : (count a : ℕ) (buf old body : List ℕ) → take count buf ≡ take a old ++ body → count ≤ length buf → a ≤ length old → count ≡ a + length body
filled_length count a buf old body e within fits =
    omega (arith, ap length e, length-append (take a old) body, length-take-le count buf within, length-take-le a old fits)

some_bytes : (input body : List ℕ) → length input ≡ 6 → input ++ body ≢ []
some_bytes input body six e = absurd (omega (arith, six, length-append input body, ap length e))

abbrev pub got : PduRead → Result PduRead SessionFault
got x = Ok x

abbrev pub failing : SessionFault → Result PduRead SessionFault
failing e = Err e

-- no whole PDU came
pub nothing_came : (A : Type 0) (now : Input) (input bytes : List ℕ) (x : PduRead) → IsCutOff now input x → IsRead A now input bytes (got x)
nothing_came A now input bytes reads.Whole h = absurd h
nothing_came A now input bytes (reads.Bad fault) h = absurd h
nothing_came A now input bytes reads.Closed h = h
nothing_came A now input bytes reads.Cut h = h
nothing_came A now input bytes reads.Failed h = h

-- a body that was not read to its end
pub takes_cut : (A : Type 0) (now : Input) (input body : List ℕ) (kind : PduKind) (n : ℕ) (rest bytes : List ℕ) (x : PduRead) (failed : Bool) → length input ≡ 6 → IsHeader input (type_code kind) n rest → n ≤ limit kind
    → length body < n → (failed ≡ true → x ≡ reads.Failed) → (failed ≡ false → x ≡ reads.Cut) → (failed ≡ false → HasEnded now) → (failed ≡ true → now.last ≡ Failed) → IsRead A now (input ++ body) bytes (got x)
takes_cut A now input body kind n rest bytes x true six h within short f c e r = rw (f refl) (cut_short A input body kind n rest six h within short, r refl)
takes_cut A now input body kind n rest bytes x false six h within short f c e r = rw (c refl) (some_bytes input body six, cut_short A input body kind n rest six h within short, e refl)

-- memory ran out before the body
pub takes_nothing : (A : Type 0) (now : Input) (input : List ℕ) (kind : PduKind) (n : ℕ) (rest bytes : List ℕ) → length input ≡ 6 → IsHeader input (type_code kind) n rest → n ≤ limit kind → IsRead A now (input ++ []) bytes (failing Memory)
takes_nothing A now input kind n rest bytes six h within =
    let none = is_nothing rest (no_more input (type_code kind) n rest six h) in
    let alone : IsHeader input (type_code kind) n [] = subst (λ (l : List ℕ). IsHeader input (type_code kind) n l) none h in
    (refl, inl (kind, n, subst (λ (l : List ℕ). IsHeader l (type_code kind) n []) (sym (append-nil input)) alone, within))
