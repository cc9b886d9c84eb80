use Rattle.std.proofs.Common.{refl, rules}
use Rattle.clap.specs.Matches.{found_of}
use Rattle.ups_ledger.specs.Keeping.{AreSound}
use Rattle.ups_server.specs.Serving.{AreWords}
use Rattle.ups_server.proofs.Words.{by_words}
use Rattle.ups_server.proofs.serving.serve_words.Goals as goal

pub returns-clause-ran : goal.returns-clause-ran
returns-clause-ran g c =
    let e = c.in_ok-asked.ensures in
    let words : AreWords (found_of c.args.matches.now) c.in_ok-asked.asked = record {
      title = e.title;
      peers = e.peers;
      watchers = e.watchers;
      keep = e.keep;
      offset = e.offset;
      workers = e.workers;
      turns = e.turns;
      idle = e.idle;
      timeout = e.timeout;
      delivery_timeout = e.delivery_timeout;
      waiting = e.waiting;
      compact_at = e.compact_at;
      from = e.from;
      check = e.check;
      verbose = e.verbose;
      audit = e.audit;
      store = e.store;
      leave_out = e.leave_out;
      compact = e.compact;
      other_settings = e.other_settings;
      metrics = e.metrics;
    } in
    let left = c.in_ok-answer_network.ensures in
    by_words g.L.Ledger (found_of c.args.matches.now) c.args.associations c.args.rounds c.in_ok-asked.asked words (search rules) c.in_ok-answer_network.field-0
    (λ server file leave settings history. AreSound g.L.Ledger server.keeper → g.O.StoreOpener.begins c.args.opener.now file leave settings history) left.settings left.begins left.ran

pub answer_network-requires-sync-R : goal.answer_network-requires-sync-R
answer_network-requires-sync-R g c κs within =
    let e = c.in_ok-asked.ensures in
    (record { shared = c.type_bounds.sync-R.shared }, ((refl, tt), (e.some, (e.most, (e.few, e.allowed)))))
