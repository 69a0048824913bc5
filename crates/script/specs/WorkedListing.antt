-- A worked case: a percentage overtakes its basis on the way to another site, and is not shown before it.
use Rattle.std.specs.Prelude.{◌≡◌, ℕ, List, [], ◌∷◌, ◌++◌, map, codes}
use Rattle.std.specs.List.{concat}
use Rattle.script.specs.Scripts.{listing}

-- Commands, each with its line. Key 2 is a basis and key 3 a percentage; a basis of kind 3 and amount 1 is the whole
-- sheet, and 1,200 hundredths (4, 176) are 12 percent.
abbrev pub worked_lines : List (List ℕ × List ℕ)
worked_lines =
    (codes "L" ++ 2 ∷ 2 ∷ codes "HE", codes "1 L ok\n")
    ∷ (codes "S" ++ 0 ∷ [], codes "2 S 0\n")
    ∷ (codes "S" ++ 1 ∷ [], codes "3 S 1\n")
    ∷ (codes "T" ++ 0 ∷ 0 ∷ 0 ∷ 0 ∷ 0 ∷ 0 ∷ 0 ∷ 100 ∷ [], codes "4 T ok\n")
    ∷ (codes "P" ++ 0 ∷ 0 ∷ 2 ∷ 3 ∷ 0 ∷ 0 ∷ 0 ∷ 1 ∷ [], codes "5 P 100.0\n")
    ∷ (codes "P" ++ 0 ∷ 0 ∷ 3 ∷ 2 ∷ 0 ∷ 0 ∷ 4 ∷ 176 ∷ [], codes "6 P 100.1\n")
    ∷ (codes "D" ++ 0 ∷ 1 ∷ 1 ∷ [], codes "7 D ok\n")
    ∷ (codes "G" ++ 1 ∷ 0 ∷ 3 ∷ [], codes "8 G none\n")
    ∷ (codes "D" ++ 0 ∷ 1 ∷ 0 ∷ [], codes "9 D ok\n")
    ∷ (codes "R" ++ 1 ∷ 0 ∷ [], codes "10 R ok\n")
    ∷ (codes "R" ++ 1 ∷ 1 ∷ [], codes "11 R ok\n")
    ∷ (codes "U" ++ 1 ∷ 1 ∷ [], codes "12 U ok\n")
    ∷ (codes "G" ++ 1 ∷ 0 ∷ 3 ∷ [], codes "13 G none\n")
    ∷ (codes "H" ++ 0 ∷ 0 ∷ [], codes "14 H 100.1\n")
    ∷ (codes "D" ++ 0 ∷ 1 ∷ 0 ∷ [], codes "15 D ok\n")
    ∷ (codes "R" ++ 1 ∷ 0 ∷ [], codes "16 R ok\n")
    ∷ (codes "U" ++ 1 ∷ 1 ∷ [], codes "17 U ok\n")
    ∷ (codes "G" ++ 1 ∷ 0 ∷ 3 ∷ [], codes "18 G percent 1200 100.1 0\n")
    ∷ (codes "G" ++ 1 ∷ 0 ∷ 2 ∷ [], codes "19 G basis sheet 100.0 0\n")
    ∷ (codes "D" ++ 0 ∷ 1 ∷ 0 ∷ [], codes "20 D no 9\n")
    ∷ []

abbrev pub worked_script : List ℕ
worked_script = concat (map (λ (row : List ℕ × List ℕ). row.0) worked_lines)

abbrev pub worked_text : List ℕ
worked_text = concat (map (λ (row : List ℕ × List ℕ). row.1) worked_lines)

-- the listing of these commands is these lines
abbrev pub ListsWorkedCase : Type 0
ListsWorkedCase = listing worked_script ≡ worked_text
