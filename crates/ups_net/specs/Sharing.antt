-- The watchers that a deliverer takes.
use Rattle.std.specs.Prelude.{Bool, true}
use Rattle.ups_net.specs.declared.roster.Share.{Share}
use Rattle.ups_net.specs.declared.roster.Share.TheVariants.{All, Quick}

-- whether a deliverer with this share may take a watcher; a watcher is quick if it is neither away nor slow
abbrev pub may_take : Share → Bool → Bool
may_take All is_quick = true
may_take Quick is_quick = is_quick
