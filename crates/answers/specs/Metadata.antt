-- The C structs of the mastering figures: an array of ten, in the content's order. Assumes nothing.
use Rattle.std.specs.Prelude.{ℕ, false, List, [], ◌∷◌, pos, get_or, Float}
use Rattle.std.specs.Float.{fin}
use Rattle.refusal.specs.Verdict.{Verdict, passed, refused}
use Rattle.mastering.specs.declared.figures.Figures.{Figures}
use Rattle.mastering.specs.declared.steps.Steps.{Steps}
use Rattle.answers.specs.declared.metadata.MasteringAnswer.{MasteringAnswer}

abbrev pub figure_list : Figures → List Float
figure_list f =
    f.red_x
    ∷ f.red_y
    ∷ f.green_x
    ∷ f.green_y
    ∷ f.blue_x
    ∷ f.blue_y
    ∷ f.white_x
    ∷ f.white_y
    ∷ f.luminance_max
    ∷ f.luminance_min
    ∷ []

-- the double 0
abbrev pub zero64 : Float
zero64 = fin false 0 (pos 0)

abbrev pub mastering_answer : Verdict Figures → MasteringAnswer
mastering_answer (passed f) = record { number = 0; place = 0; figure = figure_list f }
mastering_answer (refused number place) =
    record {
      number = number;
      place = place;
      figure =
          zero64
          ∷ zero64
          ∷ zero64
          ∷ zero64
          ∷ zero64
          ∷ zero64
          ∷ zero64
          ∷ zero64
          ∷ zero64
          ∷ zero64
          ∷ [];
    }

-- what is handed in for writing
abbrev pub steps_from : List ℕ → Steps
steps_from value =
    record {
      red_x = get_or value 0 0;
      red_y = get_or value 1 0;
      green_x = get_or value 2 0;
      green_y = get_or value 3 0;
      blue_x = get_or value 4 0;
      blue_y = get_or value 5 0;
      white_x = get_or value 6 0;
      white_y = get_or value 7 0;
      luminance_max = get_or value 8 0;
      luminance_min = get_or value 9 0;
    }
