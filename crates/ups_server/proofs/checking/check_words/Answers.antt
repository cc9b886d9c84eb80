use Rattle.clap.specs.Matches.{found_of}
use Rattle.ups_server.specs.Serving.{AreWords}
use Rattle.ups_server.proofs.checking.check_words.Goals as goal

pub returns-clause-words : goal.returns-clause-words
returns-clause-words g c =
    let e = c.in_ok-asked.ensures in
    let words : AreWords (found_of c.args.matches.now) c.in_ok-asked.asked = record {
      title = e.title;
      peers = e.peers;
      watchers = e.watchers;
      keep = e.keep;
      offset = e.offset;
      workers = e.workers;
      turns = e.turns;
      idle = e.idle;
      timeout = e.timeout;
      delivery_timeout = e.delivery_timeout;
      waiting = e.waiting;
      compact_at = e.compact_at;
      from = e.from;
      check = e.check;
      verbose = e.verbose;
      audit = e.audit;
      store = e.store;
      leave_out = e.leave_out;
      compact = e.compact;
      other_settings = e.other_settings;
      metrics = e.metrics;
    } in
    (c.in_ok-asked.asked, words)
