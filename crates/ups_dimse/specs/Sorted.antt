-- The values of the elements that messages have, sorted by their numbers in one pass over a command set.
use Rattle.std.specs.Prelude.{◌≡◌, ℕ, ◌==◌, if◌then◌else◌, List, Option, Some}
use Rattle.std.specs.Option.{option_copied}
use Rattle.ups_dimse.specs.declared.values.CommandValues.{CommandValues}
use Rattle.ups_dimse.specs.Elements.{CommandElement, value_in}

-- the values are those of the elements
pub record HasValues (elements : List CommandElement) (values : CommandValues) : Type 0 where
  pub affected_class : option_copied values.affected_class ≡ value_in 0x0002 elements
  pub requested_class : option_copied values.requested_class ≡ value_in 0x0003 elements
  pub command_field : option_copied values.command_field ≡ value_in 0x0100 elements
  pub message_id : option_copied values.message_id ≡ value_in 0x0110 elements
  pub responded_to : option_copied values.responded_to ≡ value_in 0x0120 elements
  pub priority : option_copied values.priority ≡ value_in 0x0700 elements
  pub data_set_type : option_copied values.data_set_type ≡ value_in 0x0800 elements
  pub status : option_copied values.status ≡ value_in 0x0900 elements
  pub affected_instance : option_copied values.affected_instance ≡ value_in 0x1000 elements
  pub requested_instance : option_copied values.requested_instance ≡ value_in 0x1001 elements
  pub event_type : option_copied values.event_type ≡ value_in 0x1002 elements
  pub attributes : option_copied values.attributes ≡ value_in 0x1005 elements
  pub action_type : option_copied values.action_type ≡ value_in 0x1008 elements

-- the value under a number, once an element is kept
abbrev pub kept_under : ℕ → ℕ → List ℕ → Option (List ℕ) → Option (List ℕ)
kept_under under number value before = if number == under then Some value else before

-- the value of an element is kept under its number, and all others stay
pub record Keeps (number : ℕ) (value : List ℕ) (before after : CommandValues) : Type 0 where
  pub affected_class : option_copied after.affected_class ≡ kept_under 0x0002 number value (option_copied before.affected_class)
  pub requested_class : option_copied after.requested_class ≡ kept_under 0x0003 number value (option_copied before.requested_class)
  pub command_field : option_copied after.command_field ≡ kept_under 0x0100 number value (option_copied before.command_field)
  pub message_id : option_copied after.message_id ≡ kept_under 0x0110 number value (option_copied before.message_id)
  pub responded_to : option_copied after.responded_to ≡ kept_under 0x0120 number value (option_copied before.responded_to)
  pub priority : option_copied after.priority ≡ kept_under 0x0700 number value (option_copied before.priority)
  pub data_set_type : option_copied after.data_set_type ≡ kept_under 0x0800 number value (option_copied before.data_set_type)
  pub status : option_copied after.status ≡ kept_under 0x0900 number value (option_copied before.status)
  pub affected_instance : option_copied after.affected_instance ≡ kept_under 0x1000 number value (option_copied before.affected_instance)
  pub requested_instance : option_copied after.requested_instance ≡ kept_under 0x1001 number value (option_copied before.requested_instance)
  pub event_type : option_copied after.event_type ≡ kept_under 0x1002 number value (option_copied before.event_type)
  pub attributes : option_copied after.attributes ≡ kept_under 0x1005 number value (option_copied before.attributes)
  pub action_type : option_copied after.action_type ≡ kept_under 0x1008 number value (option_copied before.action_type)
