use Rattle.ups_args.proofs.Parts.{unsplit, first_of, untitled, unlockable, names}
use Rattle.ups_args.proofs.peers.peer_word_of.Goals as goal

pub returns-in_err-title : goal.returns-in_err-title
returns-in_err-title c = rw c.from_residual.ensures (unsplit c.args.word.now c.split_once.result c.split_once.ensures.cases c.in_err-title.was)

pub returns-in_err-ae : goal.returns-in_err-ae
returns-in_err-ae c =
    let first = first_of c.args.word.now c.split_once.result c.in_ok-title.title c.in_ok-title.rest c.split_once.ensures.cases c.in_ok-title.was in
    rw (c.from_residual-in_err-ae.ensures) (untitled c.args.word.now _ _ first (rw c.as_bytes.ensures.value at c.in_err-ae.ensures))

pub returns-in_err-address : goal.returns-in_err-address
returns-in_err-address c =
    let first = first_of c.args.word.now c.split_once.result c.in_ok-title.title c.in_ok-title.rest c.split_once.ensures.cases c.in_ok-title.was in
    rw (c.from_residual-in_err-address.ensures) (unlockable c.args.word.now _ _ first c.in_err-address.ensures)

pub returns : goal.returns
returns c =
    let first = first_of c.args.word.now c.split_once.result c.in_ok-title.title c.in_ok-title.rest c.split_once.ensures.cases c.in_ok-title.was in
    names c.args.word.now _ _ _ _ _ first (rw c.as_bytes.ensures.value at c.in_ok-ae.ensures) c.in_ok-address.ensures
