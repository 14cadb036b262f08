-- When two states are one.
use Rattle.std.proofs.Common.{◌≡◌, Bool, true, false, ◌&&◌, refl, subst}
use Rattle.std.specs.Bool.{Decides, beq}
use Rattle.std.specs.Cmp.{booleans_Decides}
use Rattle.std.specs.Ordering.{int_eq}
use Rattle.std.specs.Str.{bytes_eq}
use Rattle.std.proofs.lemmas.Bool.{and_parts, and_from}
use Rattle.std.proofs.lemmas.Bool.Decides.{Decides-int_eq}
use Rattle.std.proofs.lemmas.Slice.Eq.{bytes_eq-Decides}
use Rattle.zic_base.specs.State.{Shown, shown}
use Rattle.zic_base.specs.declared.state.State.{State}
use Rattle.zic_table.specs.ContentOf.{same_state}
use Rattle.zic_table.specs.code.Numbering.{same_key}

state_itself : (s : Shown) → same_state s s ≡ true
state_itself s =
    and_from (int_eq s.offset s.offset && beq s.daylight s.daylight) (bytes_eq s.name s.name)
    (and_from (int_eq s.offset s.offset) (beq s.daylight s.daylight) ((Decides-int_eq s.offset s.offset).1 refl) ((booleans_Decides s.daylight s.daylight).1 refl))
    ((bytes_eq-Decides s.name s.name).1 refl)

one_by_parts : (a b : Shown) → same_state a b ≡ true → a ≡ b
one_by_parts a b e =
    let (front, names) = and_parts (int_eq a.offset b.offset && beq a.daylight b.daylight) (bytes_eq a.name b.name) e in
    let (offsets, flags) = and_parts (int_eq a.offset b.offset) (beq a.daylight b.daylight) front in
    let offset = (Decides-int_eq a.offset b.offset).0 offsets in
    let daylight = (booleans_Decides a.daylight b.daylight).0 flags in
    let name = (bytes_eq-Decides a.name b.name).0 names in
    λ k. record { offset = offset k; daylight = daylight k; name = name k }

pub state_decides : (a b : Shown) → Decides (same_state a b) (a ≡ b)
state_decides a b = (one_by_parts a b, λ e. subst (λ (s : Shown). same_state a s ≡ true) e (state_itself a))

and_assoc : (a b c : Bool) → (a && (b && c)) ≡ ((a && b) && c)
and_assoc true b c = refl
and_assoc false b c = refl

pub same_key-is : (a b : State) → same_key a b ≡ same_state (shown a) (shown b)
same_key-is a b = and_assoc (int_eq a.offset b.offset) (beq a.daylight b.daylight) (bytes_eq a.name.now b.name.now)
