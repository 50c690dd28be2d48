-- What each public function promises: its answer, and what lent memory holds after it.
use Rattle.std.specs.Prelude.{ℕ, Bool, List, ◌≡◌, Option}
use Rattle.laws.specs.Gives.{Gives}
use Rattle.cutter.specs.Cutter.{fresh, valid_cutter, held_from, end_from, end_in, hold_of, cut_of, cut_answer, left_by_said, whole_left}
use Rattle.cutter.specs.declared.Cutter.{Cutter}
use Rattle.cutter.specs.declared.Cut.{Cut}

abbrev pub NextEnd : List ℕ → Bool → Option ℕ → Type 0
NextEnd stream lf r = r ≡ end_from lf 0 stream

abbrev pub CutterFresh : Cutter → Type 0
CutterFresh r = r ≡ fresh

abbrev pub CutterIsValid : Cutter → Bool → Type 0
CutterIsValid self r = r ≡ valid_cutter self

abbrev pub CutterEndIn : Cutter → List ℕ → Option ℕ → Type 0
CutterEndIn self piece r = r ≡ end_in self piece

abbrev pub CutterHeld : Cutter → List ℕ → Cutter → Type 0
CutterHeld self part r = r ≡ held_from self part

abbrev pub CutterHold : Cutter → List ℕ → Cut → Type 0
CutterHold self piece r = r ≡ hold_of self piece

abbrev pub CutterCut : Cutter → List ℕ → List ℕ → Cut → List ℕ → Type 0
CutterCut self piece out r after = Gives (cut_answer (cut_of self piece) out) (left_by_said whole_left (cut_of self piece).said out) r after
