-- The tables of the analysis as they are lent. Assumes nothing.
use Rattle.std.specs.Prelude.{◌≡◌}
use Rattle.csc.specs.Csc.{matrix}
use Rattle.analysis.specs.declared.Tables.{Tables}
use Rattle.analysis.specs.declared.TablesRef.{TablesRef}
use Rattle.analysis.specs.Analysis.{Written, written}

-- "Analysis writes the permuted pointers, rows and values, the map, parents, counts, and the signs in the new order": what they hold
abbrev pub tables_of : Tables → Written
tables_of t = written (matrix t.pc.now t.pr.now t.pv.now) t.map.now t.etree.now t.lnz.now t.dsigns.now

-- the same of tables that are only read
abbrev pub read_of : TablesRef → Written
read_of t = written (matrix t.pc.now t.pr.now t.pv.now) t.map.now t.etree.now t.lnz.now t.dsigns.now

-- each list is still the one that was lent
abbrev pub SameTables : Tables → Tables → Type 0
SameTables a b =
    (b.pc.ghost_name ≡ a.pc.ghost_name) × (b.pr.ghost_name ≡ a.pr.ghost_name) × (b.pv.ghost_name ≡ a.pv.ghost_name) × (b.map.ghost_name ≡ a.map.ghost_name)
    × (b.etree.ghost_name ≡ a.etree.ghost_name) × (b.lnz.ghost_name ≡ a.lnz.ghost_name) × (b.dsigns.ghost_name ≡ a.dsigns.ghost_name)
