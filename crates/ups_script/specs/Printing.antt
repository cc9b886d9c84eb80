-- Replies as lines.
use Rattle.std.specs.Prelude.{ℕ, codes, true, false, List, [], ◌∷◌, ◌++◌, map, Option, None, Some}
use Rattle.std.specs.Fmt.{decimal}
use Rattle.ups_dataset.specs.Data.{El}
use Rattle.ups_reports.specs.Payloads.{type_id}
use Rattle.ups_life.specs.declared.event.Event.{Event}
use Rattle.ups_life.specs.declared.event_reports.EventReport.{EventReport}
use Rattle.ups_life.specs.declared.request.Reply.{Reply}
use Rattle.ups_life.specs.declared.request.Reply.TheVariants.{Status as Answered, Set as Shown, Sets as Found, Swept, AckAhead, AckStale, Reports}
use Rattle.ups_cycle.specs.declared.status.Status.TheVariants.{Success}
use Rattle.ups_life.specs.declared.watching.Subscription.{Subscription}
use Rattle.ups_life.specs.declared.watching.Subscription.TheVariants.{Free, Locked}
use Rattle.ups_life.specs.declared.watching.Watched.{Watched as WatchedStep}
use Rattle.ups_life.specs.Readiness.{readiness_word}
use Rattle.ups_cycle.specs.States.{state_text}
use Rattle.ups_cycle.specs.Statuses.{code}
use Rattle.ups_lines.specs.Printing.{hex_word, printed, words, spaced}
use Rattle.ups_script.specs.declared.telling.Told.{Told}
use Rattle.ups_script.specs.declared.telling.Told.TheVariants.{Replied, Steps, Watched, Holder}

-- one of several data sets, in brackets
abbrev pub bracketed : List El → List ℕ
bracketed set = (91 ∷ spaced false (words [] set)) ++ (93 ∷ [])

-- the title of a step's holder, or a hyphen if there is none
abbrev pub title_word : Option (List ℕ) → List ℕ
title_word None = 45 ∷ []
title_word (Some title) = printed title

-- a step that a watcher is subscribed to: its UID, and `locked` if the subscription has a Deletion Lock, otherwise `free`
abbrev pub subscription_text : Subscription → List ℕ
subscription_text Free = codes "free"
subscription_text Locked = codes "locked"

abbrev pub watched_word : WatchedStep → List ℕ
watched_word x = printed x.step ++ (58 ∷ subscription_text x.subscription)

-- an event (PS3.4 CC.2.4): its number, its type, the step, and the step's state and readiness
abbrev pub event_word : Event → List ℕ
event_word x =
    (((decimal x.number ++ (58 ∷ decimal (type_id x.kind))) ++ (58 ∷ printed x.step)) ++ (58 ∷ printed (state_text x.state))) ++ (58 ∷ printed (readiness_word x.readiness))

abbrev pub report_word : {A : Type 0} → EventReport A → List ℕ
report_word r = event_word r.event

-- the words of a reply after its status
abbrev pub reply_words : {A : Type 0} → Reply A → List (List ℕ)
reply_words (Answered status) = []
reply_words (Shown status set) = words [] set
reply_words (Found sets) = map bracketed sets
reply_words (Swept count) = decimal count ∷ []
reply_words AckAhead = []
reply_words AckStale = []
reply_words (Reports reports) = map report_word reports

-- the beginning of a reply: its status as four hex digits (PS3.7 annex C), or why an acknowledgement is not valid
abbrev pub reply_head : {A : Type 0} → Reply A → List ℕ
reply_head (Answered status) = hex_word (code status)
reply_head (Shown status set) = hex_word (code status)
reply_head (Found sets) = hex_word (code Success)
reply_head (Swept count) = hex_word (code Success)
reply_head AckAhead = codes "AckAhead"
reply_head AckStale = codes "AckStale"
reply_head (Reports reports) = hex_word (code Success)

-- the line of a reply: its beginning, its words, and a line feed
abbrev pub reply_line : List ℕ → List (List ℕ) → List ℕ
reply_line head ws = (head ++ spaced true ws) ++ (10 ∷ [])

abbrev pub line_of : {A : Type 0} → Told A → List ℕ
line_of (Replied reply) = reply_line (reply_head reply) (reply_words reply)
line_of (Steps steps) = reply_line (hex_word (code Success)) (map printed steps.items)
line_of (Watched steps) = reply_line (hex_word (code Success)) (map watched_word steps.items)
line_of (Holder title) = reply_line (hex_word (code Success)) (title_word title ∷ [])

-- the text in place of a reply to an invalid line: "bad line " and the number of the line
abbrev pub bad_text : ℕ → List ℕ
bad_text number = (codes "bad line " ++ decimal number) ++ (10 ∷ [])
