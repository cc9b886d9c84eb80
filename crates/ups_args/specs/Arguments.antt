-- What the words of a command line say.
use Rattle.std.specs.Prelude.{◌≡◌, ◌≢◌, ◌⊎◌, ℕ, ◌<◌, ◌≤◌, ◌^◌, ℤ, Bool, true, false, not, ◌&&◌, ◌||◌, nat_eq, nat_lt, is_some, List, [], ◌∷◌, ◌++◌, length, slice_index, drop, codes, string_bytes, Option, Some, None, option_map, unwrap_or}
use Rattle.std.specs.Char.{is_ascii_whitespace}
use Rattle.std.specs.List.{list_any, starts_with}
use Rattle.std.specs.Cmp.Lexicographic.{pointwise}
use Rattle.std.specs.Net.Grammar.{IsIpText}
use Rattle.std.specs.Path.{path_file_name}
use Rattle.std.specs.Str.Parse.{IsNumeral, digits_value, signed_digits_value, without_leading_plus, without_leading_sign}
use Rattle.std.specs.declared.net.ip_addr.IpAddr.{IpAddr}
use Rattle.clap.specs.declared.parser.matches.Found.{Found}
use Rattle.clap.specs.Matches.{first_value, matched_of, one_text, raw_values}
use Rattle.ups_life.specs.declared.peer.Peer.{Peer}
use Rattle.ups_life.specs.Limits.{peer_limit}
use Rattle.ups_settings.specs.Refusal.{is_bad_offset, is_named, is_twice}
use Rattle.ups_peers.specs.declared.watcher.Watcher.{Watcher}
use Rattle.ups_peers.specs.declared.watcher.WatcherAddress.{WatcherAddress}
use Rattle.ups_pdu.specs.Title.{SpellsAe}
use Rattle.ups_args.specs.declared.fault.ArgumentFault.{ArgumentFault}
use Rattle.ups_args.specs.declared.fault.ArgumentFault.TheVariants as faults
use Rattle.ups_args.specs.declared.peers.PeerLine.{PeerLine}
use Rattle.ups_args.specs.declared.peers.PeerLine.TheVariants as lines
use Rattle.ups_peers.specs.Limits.{compact_at_limit, default_compact_at, default_waiting, default_workers, delivery_seconds, idle_seconds, timeout_seconds, workers_limit}
use Rattle.ups_settings.specs.Defaults.{keep_seconds, local_offset}

-- a number of seconds below 2^32, in decimal digits, with or without a + in front
pub record SaysSeconds (word : List ℕ) (seconds : ℕ) : Type 0 where
  pub numeral : IsNumeral 10 (without_leading_plus word)
  pub value : seconds ≡ digits_value 10 (without_leading_plus word)
  pub fits : seconds < 2 ^ 32

-- an offset from UTC in minutes, in the range of DT (PS3.5 section 6.2), in decimal digits, with or without a sign
pub record SaysMinutes (word : List ℕ) (offset : ℤ) : Type 0 where
  pub numeral : IsNumeral 10 (without_leading_sign word)
  pub value : offset ≡ signed_digits_value 10 word
  pub within : is_bad_offset offset ≡ false

-- the seconds that a word says, or so many by default
abbrev pub SaysSecondsOr : ℕ → Option (List ℕ) → ℕ → Type 0
SaysSecondsOr default None seconds = seconds ≡ default
SaysSecondsOr default (Some word) seconds = SaysSeconds word seconds

-- the seconds for which a finished step is kept, by this word or by default
abbrev pub SaysKeep : Option (List ℕ) → ℕ → Type 0
SaysKeep = SaysSecondsOr keep_seconds

-- the offset of the local time, by this word or by default
abbrev pub SaysOffset : Option (List ℕ) → ℤ → Type 0
SaysOffset None offset = offset ≡ local_offset
SaysOffset (Some word) offset = SaysMinutes word offset

-- the offset with which the lines of a history are read, by this word, or that of the last run of the store
abbrev pub SaysOtherOffset : Option (List ℕ) → Option ℤ → Type 0
SaysOtherOffset None offset = offset ≡ None
SaysOtherOffset (Some word) (Some offset) = SaysMinutes word offset
SaysOtherOffset (Some word) None = ⊥

-- the number of a port to listen on, from 0 to 65535, in decimal digits, with or without a + in front
pub record SaysPort (word : List ℕ) (port : ℕ) : Type 0 where
  pub numeral : IsNumeral 10 (without_leading_plus word)
  pub value : port ≡ digits_value 10 (without_leading_plus word)
  pub fits : port < 2 ^ 16

-- the number of associations served at the same time, in decimal digits, with or without a + in front
pub record SaysWorkers (word : List ℕ) (count : ℕ) : Type 0 where
  pub numeral : IsNumeral 10 (without_leading_plus word)
  pub value : count ≡ digits_value 10 (without_leading_plus word)
  pub least : 1 ≤ count
  pub most : count ≤ workers_limit

-- the same, by this word or by default
abbrev pub SaysWorkersOrNot : Option (List ℕ) → ℕ → Type 0
SaysWorkersOrNot None count = count ≡ default_workers
SaysWorkersOrNot (Some word) count = SaysWorkers word count

-- the seconds for which an association may be silent between two messages, by this word or by default
abbrev pub SaysIdle : Option (List ℕ) → ℕ → Type 0
SaysIdle = SaysSecondsOr idle_seconds

-- the seconds that a peer may take to send each message that it has begun, and to receive each answer, by this word or by
-- default
abbrev pub SaysTimeout : Option (List ℕ) → ℕ → Type 0
SaysTimeout = SaysSecondsOr timeout_seconds

-- the most seconds to wait for a watcher, to connect to it and for each answer, by this word or by default
abbrev pub SaysDeliveryTimeout : Option (List ℕ) → ℕ → Type 0
SaysDeliveryTimeout = SaysSecondsOr delivery_seconds

-- a number of event reports below 2^32, in decimal digits, with or without a + in front
pub record SaysReports (word : List ℕ) (count : ℕ) : Type 0 where
  pub numeral : IsNumeral 10 (without_leading_plus word)
  pub value : count ≡ digits_value 10 (without_leading_plus word)
  pub fits : count < 2 ^ 32

-- the number of event reports that may wait for one watcher, by this word or by default
abbrev pub SaysWaiting : Option (List ℕ) → ℕ → Type 0
SaysWaiting None count = count ≡ default_waiting
SaysWaiting (Some word) count = SaysReports word count

-- the number of records appended to the store before it is compacted, in decimal digits, with or without a + in front
pub record SaysCompactAt (word : List ℕ) (count : ℕ) : Type 0 where
  pub numeral : IsNumeral 10 (without_leading_plus word)
  pub value : count ≡ digits_value 10 (without_leading_plus word)
  pub least : 1 ≤ count
  pub most : count ≤ compact_at_limit

-- the same, by this word or by default
abbrev pub SaysCompactAtOrNot : Option (List ℕ) → ℕ → Type 0
SaysCompactAtOrNot None count = count ≡ default_compact_at
SaysCompactAtOrNot (Some word) count = SaysCompactAt word count

-- a number of requests below 2^64, in decimal digits, with or without a + in front
pub record SaysUntil (word : List ℕ) (count : ℕ) : Type 0 where
  pub numeral : IsNumeral 10 (without_leading_plus word)
  pub value : count ≡ digits_value 10 (without_leading_plus word)
  pub fits : count < 2 ^ 64

-- how many requests of a store are told, by this word, or all of them
abbrev pub SaysUntilOrNot : Option (List ℕ) → Option ℕ → Type 0
SaysUntilOrNot None until = until ≡ None
SaysUntilOrNot (Some word) (Some count) = SaysUntil word count
SaysUntilOrNot (Some word) None = ⊥

-- the address to listen on: this word, or 127.0.0.1 if there is none
abbrev pub SaysBind : Option (List ℕ) → List ℕ → Type 0
SaysBind None address = address ≡ codes "127.0.0.1"
SaysBind (Some word) address = address ≡ word

-- the address from which event reports leave: the IP address that this word writes, or none if there is no word
abbrev pub SaysFrom : Option (List ℕ) → Option IpAddr → Type 0
SaysFrom None from = from ≡ None
SaysFrom (Some word) None = ⊥
SaysFrom (Some word) (Some ip) = IsIpText word ip

-- the number of a port, from 1 to 65535, in decimal digits
pub record IsPort (text : List ℕ) : Type 0 where
  pub numeral : IsNumeral 10 text
  pub least : 1 ≤ digits_value 10 text
  pub most : digits_value 10 text < 2 ^ 16

-- host:port; no digit is a colon, so the last colon begins the port
pub record IsAddress (text : List ℕ) : Type 0 where
  pub host : List ℕ
  pub port : List ℕ
  pub parts : text ≡ host ++ 58 ∷ port
  pub some_host : 0 < length host
  pub is_port : IsPort port

-- the ending after the address of a peer: `,lock` if the peer may lock steps, otherwise nothing
abbrev pub ending_of : Bool → List ℕ
ending_of true = codes ",lock"
ending_of false = []

-- what stands in the place of an address for a peer that is never connected to
abbrev pub nowhere : List ℕ
nowhere = codes "-"

-- where a peer listens: at an address, or nowhere
abbrev pub IsListening : List ℕ → Type 0
IsListening text = (text ≡ nowhere) ⊎ IsAddress text

-- where a peer listens, and whether it may lock steps
pub record SaysLock (text : List ℕ) (lock : Bool) : Type 0 where
  pub address : List ℕ
  pub parts : text ≡ address ++ ending_of lock
  pub is_place : IsListening address

-- the text with its ending taken off, and whether it was `,lock`: what says where a peer listens stands there
pub record CutsLock (text place : List ℕ) (lock : Bool) : Type 0 where
  pub parts : text ≡ place ++ ending_of lock
  pub only : (marked : Bool) (says : SaysLock text marked) → says.address ≡ place

-- an address, with its host and its port
pub record SaysAddress (text host : List ℕ) (port : ℕ) : Type 0 where
  pub is_address : IsAddress text
  pub is_host : host ≡ is_address.host
  pub is_port : port ≡ digits_value 10 is_address.port

-- the text says that a peer listens at this host and port, or nowhere
abbrev pub SaysWhere : List ℕ → Option (List ℕ × ℕ) → Type 0
SaysWhere text None = text ≡ nowhere
SaysWhere text (Some place) = SaysAddress text place.0 place.1

-- where a peer listens, with its host and its port, and whether the peer may lock steps
pub record SaysPlace (text : List ℕ) (place : Option (List ℕ × ℕ)) (lock : Bool) : Type 0 where
  pub says : SaysLock text lock
  pub is_there : SaysWhere says.address place

-- the word names a peer: a title, =, and where it listens, with its ending; the first = ends the title
pub record NamesPeer (word : List ℕ) (peer : Peer) : Type 0 where
  pub title : List ℕ
  pub rest : List ℕ
  pub parts : word ≡ title ++ 61 ∷ rest
  pub first : (i : ℕ) → i < length title → slice_index title i ≢ 61
  pub spells : SpellsAe title peer.ae
  pub says : SaysLock rest peer.lock

-- the word names a peer, and the host and the port where it listens, if it does
pub record NamesPlace (word : List ℕ) (peer : Peer) (place : Option (List ℕ × ℕ)) : Type 0 where
  pub names : NamesPeer word peer
  pub is_there : SaysWhere names.says.address place

-- the host and the port of a watcher's address
abbrev pub listens_at : Option WatcherAddress → Option (List ℕ × ℕ)
listens_at = option_map (λ a. (string_bytes a.host, a.port))

-- the word names a watcher: the title of a peer, and where it listens
abbrev pub NamesWatcher : List ℕ → Watcher → Type 0
NamesWatcher word watcher = (lock : Bool) × NamesPlace word (record { ae = watcher.ae; lock = lock }) (listens_at watcher.address)

-- each word names the item at its place, and there are as many items as words
abbrev pub EachNames : {P : Type 0} → (List ℕ → P → Type 0) → List (List ℕ) → List P → Type 0
EachNames Names [] [] = Unit {0}
EachNames Names [] (p ∷ ps) = ⊥
EachNames Names (w ∷ ws) [] = ⊥
EachNames Names (w ∷ ws) (p ∷ ps) = Names w p × EachNames Names ws ps

abbrev pub NamePeers : List (List ℕ) → List Peer → Type 0
NamePeers = EachNames NamesPeer

abbrev pub NameWatchers : List (List ℕ) → List Watcher → Type 0
NameWatchers = EachNames NamesWatcher

-- a text that says nothing to a reader of peers: it is empty, or begins with #
abbrev pub says_nothing : List ℕ → Bool
says_nothing [] = true
says_nothing (c ∷ cs) = nat_eq c 35

-- whether the host where a peer listens has white space
abbrev pub is_spaced : Option (List ℕ × ℕ) → Bool
is_spaced None = false
is_spaced (Some place) = list_any is_ascii_whitespace place.0

-- the text names a peer whose host has white space, or has none
abbrev pub NamesSpaced : List ℕ → Bool → Type 0
NamesSpaced text spaced = (peer : Peer) × (place : Option (List ℕ × ℕ)) × NamesPlace text peer place × (is_spaced place ≡ spaced)

-- what a line of a file of peers says, without the white space at its ends: nothing; or it is a word that names a peer, whose
-- host has no white space; or it is neither
abbrev pub SaysLine : List ℕ → PeerLine → Type 0
SaysLine text lines.Nothing = says_nothing text ≡ true
SaysLine text (lines.Peer word) = (says_nothing text ≡ false) × (word.now ≡ text) × NamesSpaced text false
SaysLine text lines.Other = (says_nothing text ≡ false) × (((peer : Peer) → NamesPeer text peer → ⊥) ⊎ NamesSpaced text true)

-- the words before this one name peers with different titles
pub record StopsAt (words : List (List ℕ)) (word : List ℕ) (before : List Peer) : Type 0 where
  pub first : List (List ℕ)
  pub more : List (List ℕ)
  pub parts : words ≡ first ++ word ∷ more
  pub named : NamePeers first before
  pub once : is_twice before ≡ false

-- why words fail to name peers: there are more words than peers are allowed; otherwise the first faulty word names no peer, or
-- names one with the title of a peer before it; or memory ran out
abbrev pub FailToName : List (List ℕ) → ArgumentFault → Type 0
FailToName words faults.TooMany = peer_limit < length words
FailToName words (faults.Peer word) = (length words ≤ peer_limit) × (before : List Peer) × StopsAt words word.now before × ((peer : Peer) → NamesPeer word.now peer → ⊥)
FailToName words faults.Doubled =
    (length words ≤ peer_limit) × (before : List Peer) × (word : List ℕ) × (peer : Peer) × StopsAt words word before × NamesPeer word peer × (is_named peer.ae before ≡ true)
FailToName words faults.Memory = length words ≤ peer_limit
FailToName words fault = ⊥

-- the words of an argument that may be given several times
abbrev pub argument_words : Found → List ℕ → List (List ℕ)
argument_words found id = unwrap_or (option_map raw_values (matched_of found id)) []

-- whether a word gives a setting of the service: `--keep`, `--offset` or a peer
abbrev pub gives_settings : Found → Bool
gives_settings found = is_some (first_value found (codes "keep")) || (is_some (first_value found (codes "offset")) || nat_lt 0 (length (argument_words found (codes "peer"))))

-- the value of a flag, as the parser found it; false if it found none
pub record IsFlag (found : Found) (id : List ℕ) (flag : Bool) : Type 0 where
  pub unset : one_text found id ≡ None → flag ≡ false
  pub set : one_text found id ≡ Some (codes "true") → flag ≡ true
  pub reset : one_text found id ≡ Some (codes "false") → flag ≡ false

-- the word after `--ae`, or the empty word if there is none, spells no AE title
abbrev pub SpellsNoTitle : Found → Type 0
SpellsNoTitle found = (title : List ℕ) → SpellsAe (unwrap_or (first_value found (codes "ae")) []) title → ⊥

-- why the words ask nothing of `pipe`: the word after `--ae` spells no AE title; or the words fail to name peers
abbrev pub FailToAskPipe : Found → ArgumentFault → Type 0
FailToAskPipe found faults.Ae = SpellsNoTitle found
FailToAskPipe found fault = FailToName (argument_words found (codes "peer")) fault

-- why the words ask nothing of `script`: the word after `--keep` says no seconds, or that after `--offset` no offset; or the
-- words fail to name peers
abbrev pub FailToAskScript : Found → ArgumentFault → Type 0
FailToAskScript found faults.Keep = (keep : ℕ) → SaysKeep (first_value found (codes "keep")) keep → ⊥
FailToAskScript found faults.Offset = (offset : ℤ) → SaysOffset (first_value found (codes "offset")) offset → ⊥
FailToAskScript found fault = FailToName (argument_words found (codes "peer")) fault

-- why the words ask for no history: the word after the option in the fault says nothing
abbrev pub FailToAskHistory : Found → ArgumentFault → Type 0
FailToAskHistory found faults.Until = (until : Option ℕ) → SaysUntilOrNot (first_value found (codes "until")) until → ⊥
FailToAskHistory found faults.Offset = (offset : Option ℤ) → SaysOtherOffset (first_value found (codes "offset")) offset → ⊥
FailToAskHistory found fault = ⊥

-- why the words say no limits of a server: the word after the option in the fault says none
abbrev pub FailToLimit : Found → ArgumentFault → Type 0
FailToLimit found faults.Associations = (count : ℕ) → SaysWorkersOrNot (first_value found (codes "associations")) count → ⊥
FailToLimit found faults.Idle = (idle : ℕ) → SaysIdle (first_value found (codes "idle")) idle → ⊥
FailToLimit found faults.Timeout = (timeout : ℕ) → SaysTimeout (first_value found (codes "timeout")) timeout → ⊥
FailToLimit found faults.DeliveryTimeout = (timeout : ℕ) → SaysDeliveryTimeout (first_value found (codes "delivery-timeout")) timeout → ⊥
FailToLimit found faults.Waiting = (count : ℕ) → SaysWaiting (first_value found (codes "waiting")) count → ⊥
FailToLimit found faults.CompactAt = (count : ℕ) → SaysCompactAtOrNot (first_value found (codes "compact-at")) count → ⊥
FailToLimit found fault = ⊥

-- the name of the file at a path, without its folder
abbrev pub name_at : List ℕ → List ℕ
name_at path = unwrap_or (path_file_name path) path

-- whether a name begins with one text, and goes on with another to its end
abbrev pub goes_on_with : List ℕ → List ℕ → List ℕ → Bool
goes_on_with start ending name = starts_with nat_eq name start && pointwise nat_eq (drop (length start) name) ending

-- whether a name is that of a file of the store with this name: its file, the log beside it, the memory beside that, and its terms
abbrev pub is_of_store : List ℕ → List ℕ → Bool
is_of_store store name = goes_on_with store [] name || (goes_on_with store (codes "-wal") name || (goes_on_with store (codes "-shm") name || goes_on_with store (codes "-terms") name))

-- whether a file for numbers is apart from a store: neither its name, nor that of the file beside it into which they are written
-- first, is that of a file of the store
abbrev pub are_apart : List ℕ → List ℕ → Bool
are_apart store metrics = not (is_of_store (name_at store) (name_at metrics)) && not (goes_on_with (name_at metrics) (codes ".new") (name_at store))

-- whether numbers leave the store alone: where both are asked for, they are apart
abbrev pub leave_alone : Option (List ℕ) → Option (List ℕ) → Bool
leave_alone (Some store) (Some metrics) = are_apart store metrics
leave_alone (Some store) None = true
leave_alone None metrics = true

-- why the words ask nothing of `serve`: the word after `--ae` spells no AE title, that after `--port` says no port, or that
-- after `--from` no IP address; the file for numbers is not apart from the store; the words say no limits; or they fail like
-- those of `script`
abbrev pub FailToAskServe : Found → ArgumentFault → Type 0
FailToAskServe found faults.Ae = SpellsNoTitle found
FailToAskServe found faults.Port = (port : ℕ) → SaysPort (unwrap_or (first_value found (codes "port")) []) port → ⊥
FailToAskServe found faults.Source = (from : Option IpAddr) → SaysFrom (first_value found (codes "from")) from → ⊥
FailToAskServe found faults.Metrics = leave_alone (first_value found (codes "store")) (first_value found (codes "metrics")) ≡ false
FailToAskServe found fault = FailToLimit found fault ⊎ FailToAskScript found fault
