-- Laws of claims, in terms of their calls, and of tasks.
use Rattle.std.specs.Prelude.{◌≡◌, ℕ, ◌<◌, ◌≤◌, List, Result, Ok, Err}
use Rattle.zic_pieces.specs.declared.pass.Known.{Known}
use Rattle.zic_pieces.specs.declared.pass.Event.{Event}
use Rattle.zic_pieces.specs.declared.pass.Event.TheVariants.{Reported}
use Rattle.zic_pieces.specs.Events.{Has}
use Rattle.zic_pieces.specs.Core.{drew}
use Rattle.zic_pieces.specs.Passes.{IsSound}
use Rattle.zic_pieces.specs.Answers.{DrawsThenGlances}
use Rattle.zic_pieces.specs.declared.task.TaskStop.{TaskStop}
use Rattle.zic_pieces.specs.declared.task.TaskStop.TheVariants.{Fault}
use Rattle.zic_pieces.specs.Task.{AreValues, IsStop}

-- the pass has all events of the other
abbrev pub HasEventsOf : Known → Known → Type 0
HasEventsOf all v = (e : Event) → Has v.events e → Has all.events e

-- A pass p, or one that was joined to it, reported i. Then p drew a. A claim of another pass q drew
-- j, which is above a, glanced at g, and made r of q. Then g is at most i, as soon as one pass has
-- the events of both
abbrev pub ReportsAreHeard : Type 0
ReportsAreHeard =
    (p q r all : Known) (i a j g : ℕ) → IsSound p → Has p.events (Reported i)
    → DrawsThenGlances j g q r → a < j
    → IsSound all → HasEventsOf all (drew a p) → HasEventsOf all r → g ≤ i

module _ {X F : Type 0} where
  -- each of n pieces has one value or one fault at most
  abbrev pub HasOneOutcomeEach : (ℕ → Result X F → Type 0) → ℕ → Type 0
  HasOneOutcomeEach outcome n =
      (i : ℕ) → i < n → (a b : Result X F) → outcome i a → outcome i b → a ≡ b

  -- what one thread answers that performs n pieces in order: the values of all, or the least faulty
  -- piece with its fault
  abbrev pub IsSequential : (ℕ → Result X F → Type 0) → ℕ → Result (List X) (TaskStop F) → Type 0
  IsSequential outcome n (Ok values) = AreValues outcome n values
  IsSequential outcome n (Err (Fault i f)) = IsStop outcome n (Fault i f)
  IsSequential outcome n (Err _) = ⊥

  -- where each piece has one outcome at most, a task of n pieces has one sequential answer at most
  abbrev pub HasAtMostOneAnswer : (ℕ → Result X F → Type 0) → ℕ → Type 0
  HasAtMostOneAnswer outcome n =
      HasOneOutcomeEach outcome n → (a b : Result (List X) (TaskStop F))
      → IsSequential outcome n a → IsSequential outcome n b → a ≡ b
