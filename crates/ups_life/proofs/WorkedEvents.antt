-- Worked rows: what watchers are told in small histories, computed by the check.
use Rattle.std.proofs.Common.{◌≡◌, ℕ, false, List, [], ◌∷◌, ◌++◌, refl}
use Rattle.std.specs.Prelude.{Some, codes}
use Rattle.ups_dataset.specs.declared.vr.Vr.TheVariants.{Cs, Sq}
use Rattle.ups_dataset.specs.declared.dictionary.TheConstants.{INPUT_READINESS_STATE, PROCEDURE_STEP_PROGRESS_INFORMATION_SEQUENCE, SCHEDULED_STATION_NAME_CODE_SEQUENCE}
use Rattle.ups_dataset.specs.Data.{El, items, no_items}
use Rattle.ups_dataset.specs.Dictionary.{vr_of}
use Rattle.ups_match.specs.Matching.{matches}
use Rattle.ups_match.specs.Moments.{moment, day_number, days_of_month, field, is_date, is_time, date_number, second_of_day, microsecond_of, offset_of, signed_offset, stamp, begun, date_stamp, time_stamp, offset_stamp, year_on, month_on}
use Rattle.ups_life.specs.declared.event.Event.{Event}
use Rattle.ups_life.specs.declared.event.EventKind.{EventKind}
use Rattle.ups_life.specs.declared.event.EventKind.TheVariants.{StateReport, CancelRequested, ProgressReport, Assigned}
use Rattle.ups_life.specs.declared.readiness.InputReadiness.{InputReadiness}
use Rattle.ups_life.specs.declared.readiness.InputReadiness.TheVariants.{Unavailable, Ready}
use Rattle.ups_life.specs.declared.request.Request.TheVariants.{Create, Set, Subscribe, Unsubscribe, Suspend, Ack}
use Rattle.ups_life.specs.declared.request.Reply.TheVariants.{Status as Answered, AckAhead, AckStale}
use Rattle.ups_cycle.specs.declared.status.Status.TheVariants.{ResourceLimitation}
use Rattle.ups_life.specs.declared.request.Transaction.TheVariants.{Absent, Proper}
use Rattle.ups_cycle.specs.declared.state.StepState.{StepState}
use Rattle.ups_cycle.specs.declared.state.StepState.TheVariants.{Scheduled, InProgress, Canceled}
use Rattle.ups_life.specs.declared.watching.Place.TheVariants.{At}
use Rattle.ups_life.specs.declared.watching.Target.TheVariants.{Global}
use Rattle.ups_life.specs.Steps.{cancellation}
use Rattle.ups_life.specs.Events.{events, pending, view, Learned}
use Rattle.ups_life.proofs.WorkedWatching.{w1, w2, room_for, site, Call, at, u1, u2, says, label, relabel, followed, step, create, claim, cancel, subscribe, filtered, sweep, after_all, replies, done}

abbrev told : ℕ → ℕ → EventKind → List ℕ → StepState → InputReadiness → Event
told number place kind u state readiness = record { number = number; entry = place; kind = kind; step = u; state = state; readiness = Some readiness }

-- an N-SET of the claimed step u1
abbrev set : List El → Call
set attributes = at 0 (Set (Some u1) (Proper (codes "2.1")) attributes)

abbrev ready : List ℕ → El
ready text = says INPUT_READINESS_STATE Cs text

abbrev progress : El
progress = record { tag = PROCEDURE_STEP_PROGRESS_INFORMATION_SEQUENCE; vr = Sq; value = items no_items }

abbrev station : El
station = record { tag = SCHEDULED_STATION_NAME_CODE_SEQUENCE; vr = Sq; value = items no_items }

-- a cancel request on a step that nobody has claimed is told twice
a_canceled_step_goes_through_in_progress : events site (after_all site [] (create u1 ∷ subscribe u1 w1 false ∷ cancel 120 ∷ [])) w1
    ≡ told 1 1 StateReport u1 Scheduled Ready ∷ told 2 2 StateReport u1 InProgress Ready ∷ told 3 2 StateReport u1 Canceled Ready ∷ []
unfolding moment day_number days_of_month field is_date is_time date_number second_of_day microsecond_of offset_of signed_offset cancellation stamp begun date_stamp time_stamp offset_stamp year_on month_on
a_canceled_step_goes_through_in_progress = refl

-- the performer of a claimed step is asked; its state stays
the_performer_is_asked : events site (after_all site [] (create u1 ∷ subscribe u1 w1 false ∷ claim u1 ∷ cancel 120 ∷ [])) w1
    ≡ told 1 1 StateReport u1 Scheduled Ready ∷ told 2 2 StateReport u1 InProgress Ready ∷ told 3 3 CancelRequested u1 InProgress Ready ∷ []
unfolding moment day_number days_of_month field is_date is_time date_number second_of_day microsecond_of offset_of signed_offset cancellation stamp begun date_stamp time_stamp offset_stamp year_on month_on
the_performer_is_asked = refl

-- a subscription reports each step held that it takes in, in order of creation, and each time that it is asked for
a_repeated_subscription_reports_again : events site (after_all site [] (create u1 ∷ create u2 ∷ at 0 (Subscribe Global w1 false) ∷ subscribe u2 w1 false ∷ [])) w1
    ≡ told 1 2 StateReport u1 Scheduled Ready ∷ told 2 2 StateReport u2 Scheduled Ready ∷ told 3 3 StateReport u2 Scheduled Ready ∷ []
unfolding moment day_number days_of_month field is_date is_time date_number second_of_day microsecond_of offset_of signed_offset
a_repeated_subscription_reports_again = refl

-- a step that is created is reported where the global subscription takes it in, and not after its suspension
a_new_step_is_reported : events site (after_all site [] (filtered (codes "READS ") false ∷ create u1 ∷ at 0 (Create u2 (step (codes "REPROC"))) ∷ at 0 (Suspend w1) ∷ at 0 (Create (codes "1.2.3.3") (step (codes "READS "))) ∷ claim u1 ∷ [])) w1
    ≡ told 1 1 StateReport u1 Scheduled Ready ∷ told 2 5 StateReport u1 InProgress Ready ∷ []
unfolding moment day_number days_of_month field is_date is_time date_number second_of_day microsecond_of offset_of signed_offset matches vr_of
a_new_step_is_reported = refl

-- an N-SET is told in this order: another readiness, progress, who is to do the step
a_set_is_told_in_order : events site (after_all site [] (create u1 ∷ claim u1 ∷ subscribe u1 w1 false ∷ set (station ∷ ready (codes "UNAVAILABLE ") ∷ progress ∷ []) ∷ [])) w1
    ≡ told 1 2 StateReport u1 InProgress Ready ∷ told 2 3 StateReport u1 InProgress Unavailable ∷ told 3 3 ProgressReport u1 InProgress Unavailable ∷ told 4 3 Assigned u1 InProgress Unavailable ∷ []
unfolding moment day_number days_of_month field is_date is_time date_number second_of_day microsecond_of offset_of signed_offset
a_set_is_told_in_order = refl

-- padding makes no other readiness, and other attributes tell nothing
the_same_readiness_is_not_told : events site (after_all site [] (create u1 ∷ claim u1 ∷ subscribe u1 w1 false ∷ set (ready (codes "READY" ++ 0 ∷ []) ∷ []) ∷ set [] ∷ [])) w1
    ≡ told 1 2 StateReport u1 InProgress Ready ∷ []
unfolding moment day_number days_of_month field is_date is_time date_number second_of_day microsecond_of offset_of signed_offset
the_same_readiness_is_not_told = refl

-- each watcher has its own numbers, and is told of what it watches alone
abbrev two_watchers : List Call
two_watchers = after_all site [] (create u1 ∷ create u2 ∷ subscribe u1 w1 false ∷ subscribe u2 w2 false ∷ claim u2 ∷ claim u1 ∷ at 0 (Unsubscribe (At (Some u1)) w1) ∷ cancel 120 ∷ [])

the_first_watcher_is_told : events site two_watchers w1 ≡ told 1 2 StateReport u1 Scheduled Ready ∷ told 2 5 StateReport u1 InProgress Ready ∷ []
unfolding moment day_number days_of_month field is_date is_time date_number second_of_day microsecond_of offset_of signed_offset cancellation stamp begun date_stamp time_stamp offset_stamp year_on month_on
the_first_watcher_is_told = refl

the_second_watcher_is_told : events site two_watchers w2 ≡ told 1 3 StateReport u2 Scheduled Ready ∷ told 2 4 StateReport u2 InProgress Ready ∷ []
unfolding moment day_number days_of_month field is_date is_time date_number second_of_day microsecond_of offset_of signed_offset cancellation stamp begun date_stamp time_stamp offset_stamp year_on month_on
the_second_watcher_is_told = refl

-- the removal of a step is told to nobody
a_removal_is_not_told : events site (after_all site [] (create u1 ∷ subscribe u1 w1 false ∷ cancel 120 ∷ sweep 180 ∷ [])) w1
    ≡ told 1 1 StateReport u1 Scheduled Ready ∷ told 2 2 StateReport u1 InProgress Ready ∷ told 3 2 StateReport u1 Canceled Ready ∷ []
unfolding moment day_number days_of_month field is_date is_time date_number second_of_day microsecond_of offset_of signed_offset cancellation stamp begun date_stamp time_stamp offset_stamp year_on month_on
a_removal_is_not_told = refl

-- ACKNOWLEDGEMENTS: each goes further than the one before, and as far as a number that was made

abbrev ack : List ℕ → ℕ → Call
ack w upto = record { caller = 0; ae = w; moment = 0; request = Ack upto }

-- five events for the first watcher
abbrev reported : List Call
reported = create u1 ∷ subscribe u1 w1 false ∷ claim u1 ∷ set (ready (codes "UNAVAILABLE ") ∷ []) ∷ set (progress ∷ []) ∷ set (ready (codes "READY ") ∷ []) ∷ []

acknowledged_in_turn : replies site (after_all site [] reported) (ack w1 2 ∷ ack w1 9 ∷ ack w1 2 ∷ ack w1 5 ∷ ack w2 1 ∷ ack w2 0 ∷ []) ≡ done ∷ AckAhead ∷ AckStale ∷ done ∷ AckAhead ∷ AckStale ∷ []
unfolding moment day_number days_of_month field is_date is_time date_number second_of_day microsecond_of offset_of signed_offset
acknowledged_in_turn = refl

what_is_not_acknowledged_is_pending : pending site (after_all site [] (reported ++ ack w1 2 ∷ [])) w1 ≡ told 4 4 ProgressReport u1 InProgress Unavailable ∷ told 5 5 StateReport u1 InProgress Ready ∷ []
unfolding moment day_number days_of_month field is_date is_time date_number second_of_day microsecond_of offset_of signed_offset
what_is_not_acknowledged_is_pending = refl

-- of a step the last State Report alone is pending, and what is no State Report stays
the_last_state_report_is_pending : pending site (after_all site [] (create u1 ∷ subscribe u1 w1 false ∷ cancel 120 ∷ [])) w1 ≡ told 3 2 StateReport u1 Canceled Ready ∷ []
unfolding moment day_number days_of_month field is_date is_time date_number second_of_day microsecond_of offset_of signed_offset cancellation stamp begun date_stamp time_stamp offset_stamp year_on month_on
the_last_state_report_is_pending = refl

a_cancel_request_stays_pending : pending site (after_all site [] (create u1 ∷ subscribe u1 w1 false ∷ claim u1 ∷ cancel 120 ∷ [])) w1 ≡ told 2 2 StateReport u1 InProgress Ready ∷ told 3 3 CancelRequested u1 InProgress Ready ∷ []
unfolding moment day_number days_of_month field is_date is_time date_number second_of_day microsecond_of offset_of signed_offset cancellation stamp begun date_stamp time_stamp offset_stamp year_on month_on
a_cancel_request_stays_pending = refl

-- a number that is left out may be acknowledged
abbrev left_out : List Call
left_out = create u1 ∷ subscribe u1 w1 false ∷ ack w1 1 ∷ claim u1 ∷ cancel 120 ∷ set (ready (codes "UNAVAILABLE ") ∷ []) ∷ []

what_is_left_out_may_be_acknowledged : replies site (after_all site [] left_out) (ack w1 2 ∷ ack w1 2 ∷ ack w1 5 ∷ ack w1 4 ∷ []) ≡ done ∷ AckStale ∷ AckAhead ∷ done ∷ []
unfolding moment day_number days_of_month field is_date is_time date_number second_of_day microsecond_of offset_of signed_offset cancellation stamp begun date_stamp time_stamp offset_stamp year_on month_on
what_is_left_out_may_be_acknowledged = refl

numbers_keep_their_gaps : pending site (after_all site [] left_out) w1 ≡ told 3 4 CancelRequested u1 InProgress Ready ∷ told 4 5 StateReport u1 InProgress Unavailable ∷ []
unfolding moment day_number days_of_month field is_date is_time date_number second_of_day microsecond_of offset_of signed_offset cancellation stamp begun date_stamp time_stamp offset_stamp year_on month_on
numbers_keep_their_gaps = refl

-- who begins to watch by an N-SET is told of the step as it is, and not of what else the N-SET gives
who_begins_to_watch_is_told_once : events site (after_all site [] (followed ++ relabel (codes "REPROC") ∷ at 0 (Unsubscribe (At (Some u2)) w1) ∷ at 0 (Set (Some u2) Absent (station ∷ ready (codes "UNAVAILABLE ") ∷ label (codes "READS ") ∷ [])) ∷ [])) w1
    ≡ told 1 1 StateReport u1 Scheduled Ready ∷ told 2 3 StateReport u2 Scheduled Ready ∷ told 3 6 StateReport u2 Scheduled Unavailable ∷ []
unfolding moment day_number days_of_month field is_date is_time date_number second_of_day microsecond_of offset_of signed_offset matches vr_of
who_begins_to_watch_is_told_once = refl

-- a full history enters no acknowledgement, and still tells which of them are wrong
a_full_history_takes_no_acknowledgement : replies (room_for 3) [] (create u1 ∷ subscribe u1 w1 false ∷ cancel 120 ∷ ack w1 9 ∷ ack w1 1 ∷ ack w1 0 ∷ []) ≡ done ∷ done ∷ done ∷ AckAhead ∷ Answered ResourceLimitation ∷ AckStale ∷ []
unfolding moment day_number days_of_month field is_date is_time date_number second_of_day microsecond_of offset_of signed_offset cancellation stamp begun date_stamp time_stamp offset_stamp year_on month_on
a_full_history_takes_no_acknowledgement = refl

-- a view is what the last State Report of the step shows
abbrev seen : StepState → InputReadiness → Learned
seen state readiness = record { state = state; readiness = Some readiness }

the_last_report_counts : view (told 1 1 StateReport u1 Scheduled Ready ∷ told 2 1 StateReport u2 Scheduled Ready ∷ told 3 2 StateReport u1 InProgress Unavailable ∷ told 4 3 CancelRequested u1 InProgress Ready ∷ []) u1 ≡ Some (seen InProgress Unavailable)
the_last_report_counts = refl
