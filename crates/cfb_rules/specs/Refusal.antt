-- The kinds of refusal.
use Rattle.std.specs.Prelude.{ℕ, ◌≡◌, Bool, true, false}
use Rattle.cfb_format.specs.declared.error.Error.{Error}
use Rattle.cfb_format.specs.Refused.{number_of}

pub data Refusal : Type 0 where
  not_found already_exists invalid_input invalid_data medium_failed out_of_memory file_full not_sound failed_earlier : Refusal

-- the number of each kind
abbrev pub refusal_number : Refusal → ℕ
refusal_number not_found = 1
refusal_number already_exists = 2
refusal_number invalid_input = 3
refusal_number invalid_data = 4
refusal_number medium_failed = 5
refusal_number out_of_memory = 6
refusal_number file_full = 7
refusal_number not_sound = 8
refusal_number failed_earlier = 9

-- an error is of this kind, whatever it tells beside
abbrev pub IsRefusal : Refusal → Error → Type 0
IsRefusal refusal e = number_of e ≡ refusal_number refusal

-- the kinds of refusal by the rules alone: medium, memory and fullness are none, nor is it that the file failed earlier
abbrev pub is_of_rules : Refusal → Bool
is_of_rules not_found = true
is_of_rules already_exists = true
is_of_rules invalid_input = true
is_of_rules invalid_data = true
is_of_rules not_sound = true
is_of_rules medium_failed = false
is_of_rules out_of_memory = false
is_of_rules file_full = false
is_of_rules failed_earlier = false
