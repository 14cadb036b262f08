-- The RULES of a zone's line: zic(8), FILES; the limit of an amount is own choice.
use Rattle.std.specs.Prelude.{ℕ, Bool, false, ◌||◌, List, [], ◌∷◌, Option, Some, None, option_map, if◌then◌else◌, ◌==◌}
use Rattle.std.specs.Char.{is_ascii_digit}
use Rattle.zic_base.specs.declared.fault.Kind.{Kind}
use Rattle.zic_base.specs.declared.fault.Kind.TheVariants.{Name, Save}
use Rattle.zic_lines.specs.declared.rules.Rules.{Rules}
use Rattle.zic_lines.specs.declared.rules.Rules.TheVariants.{Standard, Amount, Set}
use Rattle.zic_lines.specs.Dash.{is_dash}
use Rattle.zic_lines.specs.Saving.{saving_of}
use Rattle.zic_lines.specs.SetName.{is_set_name}

-- A text that begins with a digit, `-` or `+` is an amount of saving.
abbrev pub begins_amount : List ℕ → Bool
begins_amount [] = false
begins_amount (byte ∷ bytes) = is_ascii_digit byte || byte == 45 || byte == 43

-- `-` for standard time, an amount of saving in the form of SAVE, or a set's name
unfoldable pub rules_of : List ℕ → Option Rules
rules_of field =
    if is_dash field then Some Standard
    else (if begins_amount field then option_map Amount (saving_of field)
    else (if is_set_name field then Some (Set field) else None))

-- the kind of fault of wrong RULES: of the amount that they begin as, or else of the name
abbrev pub rules_kind : List ℕ → Kind
rules_kind field = if begins_amount field then Save else Name
