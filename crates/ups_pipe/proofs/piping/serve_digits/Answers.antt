use Rattle.ups_pipe.proofs.piping.serve_digits.Goals as goal

pub returns : goal.returns
returns g c = record {
  session =
      let (input, consumed, is) = c.serve.ensures.session in
      (c.serve.new.reader, c.serve.new.writer, input, rw c.new-bytes.ensures at consumed, rw c.new-lines.ensures at is);
}
