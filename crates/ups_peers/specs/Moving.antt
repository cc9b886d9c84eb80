-- Where a watcher listens once watchers are named anew.
use Rattle.std.specs.Prelude.{List, Option, None, Some}
use Rattle.std.specs.List.{find}
use Rattle.std.specs.Str.{bytes_eq}
use Rattle.ups_peers.specs.declared.watcher.Watcher.{Watcher}
use Rattle.ups_peers.specs.declared.watcher.WatcherAddress.{WatcherAddress}

-- the address that a watcher has, if there is one
abbrev pub address_of : Option Watcher → Option WatcherAddress
address_of None = None
address_of (Some watcher) = watcher.address

-- an address that is named anew, for one who has an address already: who is retired stays so
abbrev pub unless_retired : Option WatcherAddress → Option WatcherAddress → Option WatcherAddress
unless_retired None named = None
unless_retired (Some address) named = named

-- where a watcher listens by what names watchers anew: at the address of the first of them that has its title
abbrev pub new_address : Watcher → List Watcher → Option WatcherAddress
new_address watcher named = unless_retired watcher.address (address_of (find (λ w. bytes_eq w.ae watcher.ae) named))
