-- Reports over the tables of WorkedOffice of `define_offices`, byte for byte.
use Rattle.std.specs.Prelude.{ℕ, true, List, [], ◌∷◌, codes, Some, None}
use Rattle.define_offices.specs.Deciding.{entry_of}
use Rattle.define_offices.specs.Tables.{Open, Tables}
use Rattle.define_offices.specs.WorkedOffice.{a, c, drawn, drawn_in_ten, in_rounds, river, rules}

-- tables in which the first round is drawn: the digits `0` drew the panel of a and c
abbrev pub drawn_tables : Tables
drawn_tables = in_rounds (drawn [] ∷ [])

abbrev pub drawn_report : List ℕ
drawn_report = codes "report\t1\ntitle\tRiver\nphase\tDrawn\nsize\t2\nvolunteers\t4\npanels\t2\ntotal\t2\nseal\t41f145deb96e63082dd54ce2bcf3dea5bf3bb3cf4f2936371c318b2d1a4355e7\ndigits\t0\nticket\t0\t1\nmember\ta\nmember\tc\nquota\tgender\tfemale\t1\t1\t2\t1\nquota\tgender\tmale\t1\t1\t2\t1\nchance\ta\t1/2\nchance\tb\t1/2\nchance\tc\t1/2\nchance\td\t1/2\nend\n"

-- tables in which the first round is drawn in 10 tickets: the digit 7 drew the panel of b and d
abbrev pub tickets_tables : Tables
tickets_tables = in_rounds (drawn_in_ten [] ∷ [])

abbrev pub tickets_report : List ℕ
tickets_report = codes "report\t1\ntitle\tRiver\nphase\tDrawn\nsize\t2\nvolunteers\t4\npanels\t2\ntotal\t2\nseal\t41f145deb96e63082dd54ce2bcf3dea5bf3bb3cf4f2936371c318b2d1a4355e7\ntickets\t10\ndigits\t7\nticket\t7\t1\nmember\tb\nmember\td\nquota\tgender\tfemale\t1\t1\t2\t1\nquota\tgender\tmale\t1\t1\t2\t1\nchance\ta\t1/2\nchance\tb\t1/2\nchance\tc\t1/2\nchance\td\t1/2\nend\n"

-- tables in which the first round is open: a woman and a man are registered, and the man has withdrawn
abbrev pub open_tables : Tables
open_tables = record {
  charter = Some river;
  rules = Some rules;
  register = entry_of a ∷ record (entry_of c) { withdrawn = true } ∷ [];
  rounds = Open ∷ [];
  bounds = None;
}

abbrev pub open_report : List ℕ
open_report = codes "report\t1\ntitle\tRiver\nphase\tOpen\nsize\t2\nvolunteers\t2\nquota\tgender\tfemale\t1\t1\t1\nquota\tgender\tmale\t1\t1\t0\nend\n"
