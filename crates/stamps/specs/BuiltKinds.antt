-- The two kinds of mark that are built.
use Rattle.std.specs.Prelude.{◌≡◌}
use Rattle.stamps.specs.Rows.{same, only, least}
use Rattle.stamps.specs.Kinds.{Kind}

-- one stamp: all four entries are equal
abbrev pub one_kind : Kind
one_kind =
    record {
      columns = 1;
      Means = λ x. (x.site0 ≡ x.site1) × (x.site1 ≡ x.site2) × (x.site2 ≡ x.site3);
      floor = λ x. same (least x);
      lift = λ site s. same s;
    }

-- a stamp for each site: any row
abbrev pub each_kind : Kind
each_kind = record { columns = 4; Means = λ x. Unit {0}; floor = λ x. x; lift = only }
