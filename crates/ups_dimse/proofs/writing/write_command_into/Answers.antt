use Rattle.std.proofs.Common.{◌≡◌, ◌-◌, ℕ, length, rules, arith, ap, refl}
use Rattle.std.proofs.lemmas.List.{length-append}
use Rattle.ups_dimse.specs.Written.{command_elements}
use Rattle.ups_dimse.proofs.Again.{again}
use Rattle.ups_dimse.proofs.Sizes.{command_short, grouped_over}
use Rattle.ups_dimse.proofs.writing.write_command_into.Goals as goal

pub overflow_cast-len : goal.overflow_cast-len
overflow_cast-len g c =
    let whole : c.len.result ≡ length c.put_elements.new.out.items = search rules in
    let room : c.len-start.result ≡ length c.extend_from_slice.new.self.items = search rules in
    omega (arith, whole, room, ap length c.in_ok-put_elements.ensures.wrote, command_short c.args.command.now c.requires c.in_ok-put_elements.ensures.held, length-append {A = ℕ})

pub returns-clause-again : goal.returns-clause-again
returns-clause-again g c = again _ c.args.command.now c.requires c.in_ok-put_elements.ensures.held refl

pub returns-clause-written : goal.returns-clause-written
returns-clause-written g c =
    let place : c.len-place.result ≡ length c.put_header.new.out.items = search rules in
    let whole : c.len.result ≡ length c.put_elements.new.out.items = search rules in
    let room : c.len-start.result ≡ length c.extend_from_slice.new.self.items = search rules in
    let len : (c.len.result - c.len-start.result) ≡ length c.put_elements.new.out.items - length c.extend_from_slice.new.self.items = λ i. whole i - room i in
    grouped_over c.args.out.now.items c.put_header.new.out.items c.extend_from_slice.new.self.items c.put_elements.new.out.items c.set_u32.new.out.items (command_elements c.args.command.now) c.len-place.result (c.len.result - c.len-start.result)
    c.in_ok-put_header.ensures place c.in_ok-extend_from_slice.ensures.items c.in_ok-put_elements.ensures.wrote len c.set_u32.ensures
