-- Layouts that there aren't.
use Rattle.std.proofs.Common.{◌≡◌, ◌<◌, ℕ, zero, suc, List, [], ◌∷◌, length, map, drop, get_or, Result, Ok, Err, ap, arith}
use Rattle.std.specs.Prelude.{IfErr}
use Rattle.zic_layouts.specs.declared.layout.Style.{Style}
use Rattle.zic_layouts.specs.declared.layout.Style.TheVariants as styles
use Rattle.zic_layouts.specs.declared.row_field.RowField.{RowField}
use Rattle.zic_layouts.specs.declared.row_field.RowFields.{RowFields}
use Rattle.zic_layouts.specs.declared.row_field.RowFields.TheVariants as rows
use Rattle.pzic_files.specs.Layout.{AreFields, AreListed, IsRefusal, style_number}
use Rattle.pzic_files.specs.RowLayout.{field_number}
use Rattle.pzic_files.specs.declared.layout.LayoutStop.{LayoutStop}
use Rattle.pzic_files.specs.declared.layout.LayoutStop.TheVariants as stop

-- for another reason
pub refused_for : (P Q : Type 0) (e : LayoutStop) → IsRefusal P e → (P → Q) → IsRefusal Q e
refused_for P Q stop.None is f = f is
refused_for P Q stop.Memory is f = tt

-- the same of what may be an error
pub refused_if : {X : Type 0} (r : Result X LayoutStop) (P Q : Type 0) → IfErr r (IsRefusal P) → (P → Q) → IfErr r (IsRefusal Q)
refused_if (Ok x) P Q is f = is
refused_if (Err e) P Q is f = refused_for P Q e is f

-- no fields have numbers one of which is that of none
pub none_at : (numbers : List ℕ) (i : ℕ) → i < length numbers → ((field : RowField) → get_or numbers i 0 ≡ field_number field → ⊥)
    → (fields : List RowField) → numbers ≡ map field_number fields → ⊥
none_at [] i within none fields is = omega (arith, within)
none_at (n ∷ numbers) i within none [] is = absurd (cc is)
none_at (n ∷ numbers) zero within none (field ∷ fields) is = none field (ap (λ ns. get_or ns 0 0) is)
none_at (n ∷ numbers) (suc i) within none (field ∷ fields) is = none_at numbers i (omega (arith, within)) none fields (ap (drop 1) is)

-- nor has a list of fields
pub unlisted : (numbers : List ℕ) → ((fields : List RowField) → numbers ≡ map field_number fields → ⊥) → (fields : RowFields) → AreListed numbers fields → ⊥
unlisted numbers none (rows.Usual style) is = is
unlisted numbers none (rows.Only list) (is, few) = none list is

-- numbers of no list are those of no fields
pub unfit : (n : ℕ) (numbers : List ℕ) → (numbers ≡ [] → ⊥) → ((fields : RowFields) → AreListed numbers fields → ⊥) → (fields : RowFields)
    → AreFields n numbers fields → ⊥
unfit n numbers some none (rows.Usual style) (empty, is) = some empty
unfit n numbers some none (rows.Only list) (is, listed) = none (rows.Only list) listed

-- a number of no style is that of no fields
pub no_style : (n : ℕ) (numbers : List ℕ) → ((style : Style) → n ≡ style_number style → ⊥) → (fields : RowFields) → AreFields n numbers fields → ⊥
no_style n numbers none (rows.Usual style) (empty, is) = none style is
no_style n numbers none (rows.Only list) (is, listed) = none styles.Fields is
