use Rattle.std.proofs.Common.{rules, ◌≡◌, ◌+◌, ◌++◌, ◌∙◌, ◌∷◌, [], ℕ, List, length, cond, ap, sym}
use Rattle.std.specs.Int.{w32, to_be_bytes}
use Rattle.ups_assoc.proofs.Pieces.{written_fragment, headed}
use Rattle.ups_assoc.proofs.cutting.put_fragment.Goals as goal

pub returns : goal.returns
returns g c =
    let bytes = c.args.bytes.now in
    let parts : c.fragment_head.result ≡ (4 ∷ 0 ∷ []) ++ (to_be_bytes w32 (length bytes + 6) ++ (to_be_bytes w32 (length bytes + 2) ++ (c.args.context ∷ (cond c.args.command 1 0 + cond c.args.last 2 0) ∷ []))) = search rules in
    let head : c.extend_from_slice.new.self.items ≡ c.args.out.now.items ++ c.fragment_head.result = search rules in
    let message : c.extend_from_slice-2.new.self.items ≡ c.extend_from_slice.new.self.items ++ bytes = search rules in
    headed c.args.out.now.items _ c.extend_from_slice-2.new.self.items _ (4 ∷ 0 ∷ []) (to_be_bytes w32 (length bytes + 6)) (to_be_bytes w32 (length bytes + 2)) (c.args.context ∷ (cond c.args.command 1 0 + cond c.args.last 2 0) ∷ []) bytes
    parts head message
    ∙ ap (λ (w : List ℕ). c.args.out.now.items ++ w) (sym (written_fragment g.row.A.Denot c.args.context c.args.command c.args.last bytes))
