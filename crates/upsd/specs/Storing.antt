-- With which settings a compaction replays.
use Rattle.std.specs.Prelude.{ℕ, ℤ, List}
use Rattle.ups_life.specs.declared.peer.Peer.{Peer}
use Rattle.ups_life.specs.Settings.{Settings}
use Rattle.ups_manager.specs.declared.manager.TheConstants.{LASTING_LIMIT}

-- these settings, for a history that has no end
abbrev pub compaction_settings : ℕ → ℤ → List Peer → Settings
compaction_settings keep offset peers = record { peers = peers; keep = keep; offset = offset; limit = LASTING_LIMIT }
