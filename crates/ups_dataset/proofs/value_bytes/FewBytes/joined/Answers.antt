use Rattle.std.proofs.Common.{◌+◌, ◌-◌, ◌++◌, ℕ, List, length, drop, replicate, refl, ap, ◌∙◌, arith}
use Rattle.std.proofs.Math.Seq.{take-append_seam}
use Rattle.std.proofs.lemmas.List.{length-append}
use Rattle.std.proofs.lemmas.Slice.{take-put_mid}
use Rattle.ups_dataset.proofs.value_bytes.FewBytes.joined.Goals as goal

pub returns : goal.returns
returns c =
    let front = c.args.front.now in
    let back = c.args.back.now in
    let zeros = drop (length front) (replicate {A = ℕ} 30 0) in
    take-put_mid (length front) (length front + length back - length front) (c.copy_from_slice.new.self ++ zeros) c.copy_from_slice-2.new.self (length front + length back)
    (rw c.copy_from_slice-2.ensures.after refl)
    (omega (arith, ap length c.copy_from_slice.ensures.after, length-append c.copy_from_slice.new.self zeros))
    ∙ rw (c.copy_from_slice.ensures.after, c.copy_from_slice-2.ensures.after) (ap (λ (l : List ℕ). l ++ back) (take-append_seam front zeros))
