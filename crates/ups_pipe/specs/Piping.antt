-- How the service is set up for one association (PS3.4 annex CC).
use Rattle.std.specs.Prelude.{ℕ, List, [], None, Some, false}
use Rattle.ups_settings.specs.Defaults.{keep_seconds, local_offset}
use Rattle.ups_assoc.specs.declared.negotiating.Config.{Config}
use Rattle.ups_life.specs.declared.peer.Peer.{Peer}
use Rattle.ups_life.specs.Settings.{Settings}
use Rattle.ups_session.specs.Tells.{Told}
use Rattle.ups_session.specs.WatchedIo.{Output}
use Rattle.ups_life.specs.Limits.{history_limit}

-- the settings if these peers may watch steps
abbrev pub settings : List Peer → Settings
settings peers = record { peers = peers; keep = keep_seconds; offset = local_offset; limit = history_limit }

-- each moment is 1970-01-01, 00:00 UTC
abbrev pub epoch : Told
epoch = record { calls = []; all = false; always = Some 0 }

-- the configuration of a session: the title of this application entity, and its local time
abbrev pub config : List ℕ → Config
config ae = record { ae = ae; offset = local_offset }

-- a writer of lines of hex digits before its first write; what it holds is unknown
abbrev pub unwritten : Output
unwritten = record { written = None; failed = false }
