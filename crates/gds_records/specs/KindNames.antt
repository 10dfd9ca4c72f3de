-- The names of the kinds of records, by the manual's codes. Kinds that no definition cites go by their numbers.
use Rattle.std.specs.Prelude.{ℕ, List, [], ◌∷◌, Option, codes, nat_eq}
use Rattle.std.specs.Map.{lookup}
use Rattle.gds_records.specs.declared.kinds.TheConstants as kind

-- each kind with its name
unfoldable pub kind_names : List (ℕ × List ℕ)
kind_names =
    (kind.HEADER, codes "HEADER") ∷
    (kind.BGNLIB, codes "BGNLIB") ∷
    (kind.LIBNAME, codes "LIBNAME") ∷
    (kind.UNITS, codes "UNITS") ∷
    (kind.ENDLIB, codes "ENDLIB") ∷
    (kind.BGNSTR, codes "BGNSTR") ∷
    (kind.STRNAME, codes "STRNAME") ∷
    (kind.ENDSTR, codes "ENDSTR") ∷
    (kind.BOUNDARY, codes "BOUNDARY") ∷
    (kind.PATH, codes "PATH") ∷
    (kind.SREF, codes "SREF") ∷
    (kind.AREF, codes "AREF") ∷
    (kind.TEXT, codes "TEXT") ∷
    (kind.LAYER, codes "LAYER") ∷
    (kind.DATATYPE, codes "DATATYPE") ∷
    (kind.WIDTH, codes "WIDTH") ∷
    (kind.XY, codes "XY") ∷
    (kind.ENDEL, codes "ENDEL") ∷
    (kind.SNAME, codes "SNAME") ∷
    (kind.COLROW, codes "COLROW") ∷
    (20, codes "TEXTNODE") ∷
    (kind.NODE, codes "NODE") ∷
    (kind.TEXTTYPE, codes "TEXTTYPE") ∷
    (kind.PRESENTATION, codes "PRESENTATION") ∷
    (kind.STRING, codes "STRING") ∷
    (kind.STRANS, codes "STRANS") ∷
    (kind.MAG, codes "MAG") ∷
    (kind.ANGLE, codes "ANGLE") ∷
    (kind.REFLIBS, codes "REFLIBS") ∷
    (kind.FONTS, codes "FONTS") ∷
    (kind.PATHTYPE, codes "PATHTYPE") ∷
    (kind.GENERATIONS, codes "GENERATIONS") ∷
    (kind.ATTRTABLE, codes "ATTRTABLE") ∷
    (36, codes "STYPTABLE") ∷
    (37, codes "STRTYPE") ∷
    (kind.ELFLAGS, codes "ELFLAGS") ∷
    (39, codes "ELKEY") ∷
    (kind.NODETYPE, codes "NODETYPE") ∷
    (kind.PROPATTR, codes "PROPATTR") ∷
    (kind.PROPVALUE, codes "PROPVALUE") ∷
    (kind.BOX, codes "BOX") ∷
    (kind.BOXTYPE, codes "BOXTYPE") ∷
    (kind.PLEX, codes "PLEX") ∷
    (kind.BGNEXTN, codes "BGNEXTN") ∷
    (kind.ENDEXTN, codes "ENDEXTN") ∷
    (50, codes "TAPENUM") ∷
    (51, codes "TAPECODE") ∷
    (kind.STRCLASS, codes "STRCLASS") ∷
    (kind.FORMAT, codes "FORMAT") ∷
    (kind.MASK, codes "MASK") ∷
    (kind.ENDMASKS, codes "ENDMASKS") ∷
    (kind.LIBDIRSIZE, codes "LIBDIRSIZE") ∷
    (kind.SRFNAME, codes "SRFNAME") ∷
    (kind.LIBSECUR, codes "LIBSECUR") ∷
    []

-- the name of a kind, where it has one
abbrev pub name_of_kind : ℕ → Option (List ℕ)
name_of_kind k = lookup (nat_eq k) kind_names
