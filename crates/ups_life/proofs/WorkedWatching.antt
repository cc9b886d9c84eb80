-- Worked rows: who watches which steps, and which are held, in small histories, computed by the check.
use Rattle.std.proofs.Common.{◌≡◌, ℕ, Bool, true, false, List, [], ◌∷◌, ◌++◌, refl}
use Rattle.std.specs.Prelude.{Some, codes, pos}
use Rattle.ups_dataset.specs.declared.tag.Tag.{Tag}
use Rattle.ups_dataset.specs.declared.vr.Vr.{Vr}
use Rattle.ups_dataset.specs.declared.vr.Vr.TheVariants.{Cs, Dt, Lo}
use Rattle.ups_dataset.specs.declared.dictionary.TheConstants.{SCHEDULED_PROCEDURE_STEP_START_DATE_TIME, INPUT_READINESS_STATE, PROCEDURE_STEP_STATE, SCHEDULED_PROCEDURE_STEP_PRIORITY, PROCEDURE_STEP_LABEL, WORKLIST_LABEL}
use Rattle.ups_dataset.specs.Data.{El, bytes}
use Rattle.ups_dataset.specs.Dictionary.{vr_of}
use Rattle.ups_match.specs.Matching.{matches}
use Rattle.ups_match.specs.Moments.{moment, day_number, days_of_month, field, is_date, is_time, date_number, second_of_day, microsecond_of, offset_of, signed_offset, stamp, begun, date_stamp, time_stamp, offset_stamp, year_on, month_on}
use Rattle.ups_life.specs.declared.entry.Entry.{Entry}
use Rattle.ups_life.specs.declared.request.Request.{Request}
use Rattle.ups_life.specs.declared.request.Request.TheVariants.{Create, Change, AskCancel, Set, Subscribe, Unsubscribe, Suspend, Sweep}
use Rattle.ups_life.specs.declared.request.Transaction.TheVariants.{Absent, Proper}
use Rattle.ups_life.specs.declared.request.Reply.{Reply}
use Rattle.ups_life.specs.declared.request.Reply.TheVariants.{Status as Answered, Swept}
use Rattle.ups_cycle.specs.declared.state.StepState.TheVariants.{InProgress}
use Rattle.ups_cycle.specs.declared.status.Status.TheVariants.{Success, DuplicateSopInstance, ResourceLimitation, DeletionLockNotGranted, UnknownInstance, UnknownReceivingAe}
use Rattle.ups_life.specs.declared.watching.Place.TheVariants.{At, Everywhere}
use Rattle.ups_life.specs.declared.watching.Subscription.{Subscription}
use Rattle.ups_life.specs.declared.watching.Subscription.TheVariants.{Free, Locked}
use Rattle.ups_life.specs.declared.watching.Target.TheVariants.{Single, Global, Filtered}
use Rattle.ups_life.specs.declared.watching.Watched.{Watched}
use Rattle.ups_life.specs.Settings.{Settings}
use Rattle.ups_life.specs.Steps.{cancellation}
use Rattle.ups_life.specs.Watching.{watched, held}
use Rattle.ups_life.specs.History.{reply, entered_by}

-- two watchers, of which the first may lock
abbrev pub w1 : List ℕ
w1 = codes "W1"

abbrev pub w2 : List ℕ
w2 = codes "W2"

abbrev pub room_for : ℕ → Settings
room_for limit = record { peers = record { ae = w1; lock = true } ∷ record { ae = w2; lock = false } ∷ []; keep = 60; offset = pos 0; limit = limit }

abbrev pub site : Settings
site = room_for 1000000

-- no allocator is looked at
abbrev pub Asked : Type 0
Asked = Request (Unit {0})

abbrev pub Call : Type 0
Call = Entry (Unit {0})

abbrev pub at : ℕ → Asked → Call
at moment request = record { caller = 0; ae = codes "P1"; moment = moment; request = request }

abbrev pub u1 : List ℕ
u1 = codes "1.2.3.1"

abbrev pub u2 : List ℕ
u2 = codes "1.2.3.2"

abbrev pub says : Tag → Vr → List ℕ → El
says tag vr text = record { tag = tag; vr = vr; value = bytes text }

abbrev pub label : List ℕ → El
label text = says WORKLIST_LABEL Lo text

-- the attributes of a step with this worklist label
abbrev pub step : List ℕ → List El
step text =
    says SCHEDULED_PROCEDURE_STEP_START_DATE_TIME Dt (codes "20240229120000")
    ∷ says INPUT_READINESS_STATE Cs (codes "READY ")
    ∷ says PROCEDURE_STEP_STATE Cs (codes "SCHEDULED ")
    ∷ says SCHEDULED_PROCEDURE_STEP_PRIORITY Cs (codes "MEDIUM")
    ∷ label text
    ∷ says PROCEDURE_STEP_LABEL Lo (codes "CT READ ")
    ∷ []

abbrev pub create : List ℕ → Call
create u = at 0 (Create u (step (codes "READS ")))

abbrev pub claim : List ℕ → Call
claim u = at 0 (Change (Some u) InProgress (Proper (codes "2.1")))

abbrev pub cancel : ℕ → Call
cancel moment = at moment (AskCancel (Some u1) [])

abbrev pub subscribe : List ℕ → List ℕ → Bool → Call
subscribe u w lock = at 0 (Subscribe (Single (Some u)) w lock)

abbrev pub filtered : List ℕ → Bool → Call
filtered text lock = at 0 (Subscribe (Filtered (record { attributes = label text ∷ []; offset = pos 0 })) w1 lock)

abbrev pub sweep : ℕ → Call
sweep moment = at moment Sweep

-- the history after some calls, newest first, and their replies
abbrev pub after_all : Settings → List Call → List Call → List Call
after_all s es [] = es
after_all s es (c ∷ cs) = after_all s (entered_by c (reply s es c) ++ es) cs

abbrev pub replies : Settings → List Call → List Call → List (Reply (Unit {0}))
replies s es [] = []
replies s es (c ∷ cs) = reply s es c ∷ replies s (entered_by c (reply s es c) ++ es) cs

abbrev pub done : Reply (Unit {0})
done = Answered Success

abbrev pub watched_as : List ℕ → Subscription → Watched
watched_as u how = record { step = u; subscription = how }

-- the peer comes before the step; a lock is granted to who may lock
who_may_subscribe : replies site [] (create u1 ∷ subscribe (codes "1.9") (codes "NOBODY") false ∷ subscribe u1 w2 true ∷ subscribe (codes "1.9") w1 false ∷ [])
    ≡ done ∷ Answered UnknownReceivingAe ∷ Answered DeletionLockNotGranted ∷ Answered UnknownInstance ∷ []
unfolding moment day_number days_of_month field is_date is_time date_number second_of_day microsecond_of offset_of signed_offset
who_may_subscribe = refl

without_the_right_it_is_free : watched site (after_all site [] (create u1 ∷ subscribe u1 w2 true ∷ [])) w2 ≡ watched_as u1 Free ∷ []
unfolding moment day_number days_of_month field is_date is_time date_number second_of_day microsecond_of offset_of signed_offset
without_the_right_it_is_free = refl

-- a global subscription takes in what is held, and what is created later
a_global_subscription_takes_in_all : watched site (after_all site [] (create u1 ∷ at 0 (Subscribe Global w1 true) ∷ create u2 ∷ [])) w1 ≡ watched_as u1 Locked ∷ watched_as u2 Locked ∷ []
unfolding moment day_number days_of_month field is_date is_time date_number second_of_day microsecond_of offset_of signed_offset
a_global_subscription_takes_in_all = refl

-- suspension leaves what was subscribed, and a newer filter what it does not take in
suspension_leaves : watched site (after_all site [] (create u1 ∷ at 0 (Subscribe Global w1 false) ∷ at 0 (Suspend w1) ∷ create u2 ∷ filtered (codes "NONE") true ∷ [])) w1 ≡ watched_as u1 Free ∷ []
unfolding moment day_number days_of_month field is_date is_time date_number second_of_day microsecond_of offset_of signed_offset matches vr_of
suspension_leaves = refl

the_end_of_all_leaves_none : watched site (after_all site [] (create u1 ∷ at 0 (Subscribe Global w1 false) ∷ at 0 (Unsubscribe Everywhere w1) ∷ create u2 ∷ [])) w1 ≡ []
unfolding moment day_number days_of_month field is_date is_time date_number second_of_day microsecond_of offset_of signed_offset matches vr_of
the_end_of_all_leaves_none = refl

-- a filter is tried again at each N-SET, and a step that ceases to match stays watched
abbrev pub relabel : List ℕ → Call
relabel text = at 0 (Set (Some u2) Absent (label text ∷ []))

abbrev pub followed : List Call
followed = filtered (codes "READS ") false ∷ create u1 ∷ at 0 (Create u2 (step (codes "REPROC"))) ∷ relabel (codes "READS ") ∷ []

a_filter_follows_changes : watched site (after_all site [] followed) w1 ≡ watched_as u1 Free ∷ watched_as u2 Free ∷ []
unfolding moment day_number days_of_month field is_date is_time date_number second_of_day microsecond_of offset_of signed_offset matches vr_of
a_filter_follows_changes = refl

what_ceases_to_match_stays : watched site (after_all site [] (followed ++ relabel (codes "REPROC") ∷ [])) w1 ≡ watched_as u1 Free ∷ watched_as u2 Free ∷ []
unfolding moment day_number days_of_month field is_date is_time date_number second_of_day microsecond_of offset_of signed_offset matches vr_of
what_ceases_to_match_stays = refl

-- who unsubscribed from a step that the filter takes in is subscribed again only where the step comes to match anew
an_n_set_that_still_matches_subscribes_nobody : watched site (after_all site [] (followed ++ at 0 (Unsubscribe (At (Some u2)) w1) ∷ relabel (codes "READS ") ∷ [])) w1 ≡ watched_as u1 Free ∷ []
unfolding moment day_number days_of_month field is_date is_time date_number second_of_day microsecond_of offset_of signed_offset matches vr_of
an_n_set_that_still_matches_subscribes_nobody = refl

-- which takes two N-SETs: one by which it ceases to match, and one by which it matches again
what_matches_anew_subscribes_again : watched site (after_all site [] (followed ++ at 0 (Unsubscribe (At (Some u2)) w1) ∷ relabel (codes "REPROC") ∷ relabel (codes "READS ") ∷ [])) w1 ≡ watched_as u1 Free ∷ watched_as u2 Free ∷ []
unfolding moment day_number days_of_month field is_date is_time date_number second_of_day microsecond_of offset_of signed_offset matches vr_of
what_matches_anew_subscribes_again = refl

-- a claim subscribes nobody, though the filter names the state that it makes
a_claim_subscribes_nobody : watched site (after_all site [] (at 0 (Subscribe (Filtered (record { attributes = says PROCEDURE_STEP_STATE Cs (codes "IN PROGRESS ") ∷ []; offset = pos 0 })) w1 false) ∷ create u1 ∷ claim u1 ∷ [])) w1 ≡ []
unfolding moment day_number days_of_month field is_date is_time date_number second_of_day microsecond_of offset_of signed_offset matches vr_of
a_claim_subscribes_nobody = refl

-- a lock keeps a step; a UID stays used after the removal of its step
a_lock_keeps_a_step : replies site [] (create u1 ∷ subscribe u1 w1 true ∷ cancel 120 ∷ sweep 500 ∷ at 0 (Unsubscribe (At (Some u1)) w1) ∷ sweep 500 ∷ create u1 ∷ claim u1 ∷ [])
    ≡ done ∷ done ∷ done ∷ Swept 0 ∷ done ∷ Swept 1 ∷ Answered DuplicateSopInstance ∷ Answered UnknownInstance ∷ []
unfolding moment day_number days_of_month field is_date is_time date_number second_of_day microsecond_of offset_of signed_offset cancellation stamp begun date_stamp time_stamp offset_stamp year_on month_on
a_lock_keeps_a_step = refl

-- a step that isn't final is removed by no sweep, however late
an_unfinished_step_is_kept : replies site [] (create u1 ∷ create u2 ∷ claim u1 ∷ sweep 1000000 ∷ []) ≡ done ∷ done ∷ done ∷ Swept 0 ∷ []
unfolding moment day_number days_of_month field is_date is_time date_number second_of_day microsecond_of offset_of signed_offset
an_unfinished_step_is_kept = refl

-- a finished step is kept for a while, and each sweep looks at its own moment
a_finished_step_is_kept_for_a_minute : replies site [] (create u1 ∷ cancel 120 ∷ sweep 179 ∷ sweep 50 ∷ sweep 180 ∷ sweep 180 ∷ []) ≡ done ∷ done ∷ Swept 0 ∷ Swept 0 ∷ Swept 1 ∷ Swept 0 ∷ []
unfolding moment day_number days_of_month field is_date is_time date_number second_of_day microsecond_of offset_of signed_offset cancellation stamp begun date_stamp time_stamp offset_stamp year_on month_on
a_finished_step_is_kept_for_a_minute = refl

what_is_not_due_is_held : held site (after_all site [] (create u1 ∷ create u2 ∷ cancel 120 ∷ sweep 180 ∷ [])) ≡ u2 ∷ []
unfolding moment day_number days_of_month field is_date is_time date_number second_of_day microsecond_of offset_of signed_offset cancellation stamp begun date_stamp time_stamp offset_stamp year_on month_on
what_is_not_due_is_held = refl

-- a full history enters nothing more; a sweep that removes nothing enters nothing
a_full_history_takes_no_sweep : replies (room_for 2) [] (create u1 ∷ cancel 120 ∷ sweep 179 ∷ subscribe u1 w1 false ∷ sweep 180 ∷ []) ≡ done ∷ done ∷ Swept 0 ∷ Answered ResourceLimitation ∷ Answered ResourceLimitation ∷ []
unfolding moment day_number days_of_month field is_date is_time date_number second_of_day microsecond_of offset_of signed_offset cancellation stamp begun date_stamp time_stamp offset_stamp year_on month_on
a_full_history_takes_no_sweep = refl
