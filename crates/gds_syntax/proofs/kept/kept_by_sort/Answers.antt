use Rattle.std.proofs.Common.{refl, inl, inr}
use Rattle.gds_records.specs.declared.kinds.TheConstants as kind
use Rattle.library_grammar.specs.GrammarNames.{IsShape, path_kind, boundary, path, text, node, box}
use Rattle.gds_syntax.proofs.JudgedLaws.{without_checks, keeps, keeps_none, has_fault}
use Rattle.first_refusal.proofs.AnswerLaws.{out_of_memory}
use Rattle.library_grammar.proofs.laws.Sizes.{sizes}
use Rattle.gds_syntax.proofs.kept.kept_by_sort.Goals as goal

pub returns-in_err-boundary-in-Boundary : goal.returns-in_err-boundary-in-Boundary
returns-in_err-boundary-in-Boundary c =
    has_fault c.args.at c.args.own.now c.from_residual.result c.in-Boundary.is c.in_err-boundary-in-Boundary.ensures c.from_residual.ensures.1

pub returns-in_ok-boundary-in-Boundary : goal.returns-in_ok-boundary-in-Boundary
returns-in_ok-boundary-in-Boundary c = keeps c.args.at c.args.own.now c.in-Boundary.is c.in_ok-boundary-in-Boundary.ensures boundary

pub returns-in_err-outline-in-BoxElement : goal.returns-in_err-outline-in-BoxElement
returns-in_err-outline-in-BoxElement c =
    has_fault c.args.at c.args.own.now c.from_residual-in_err-outline-in-BoxElement.result
    c.in-BoxElement.is c.in_err-outline-in-BoxElement.ensures c.from_residual-in_err-outline-in-BoxElement.ensures.1

pub returns-in_ok-outline-in-BoxElement : goal.returns-in_ok-outline-in-BoxElement
returns-in_ok-outline-in-BoxElement c = keeps c.args.at c.args.own.now c.in-BoxElement.is c.in_ok-outline-in-BoxElement.ensures box

pub returns-in_ok-path-in-Path : goal.returns-in_ok-path-in-Path
returns-in_ok-path-in-Path c =
    let shape = rw c.path_kind_of.ensures.kind at c.in_ok-path-in-Path.ensures in
    keeps c.args.at c.args.own.now {Is = IsShape c.args.at (path_kind c.args.own.now) kind.DATATYPE c.args.own.now} c.in-Path.is (without_checks c.args.at c.args.own.now shape) path

pub returns-in_err-single_of-in-Sref : goal.returns-in_err-single_of-in-Sref
returns-in_err-single_of-in-Sref c =
    has_fault c.args.at c.args.own.now c.from_residual-in_err-single_of-in-Sref.result
    c.in-Sref.is c.in_err-single_of-in-Sref.ensures c.from_residual-in_err-single_of-in-Sref.ensures.1

pub returns-in_ok-single_of-in-Sref : goal.returns-in_ok-single_of-in-Sref
returns-in_ok-single_of-in-Sref c = keeps c.args.at c.args.own.now c.in-Sref.is c.in_ok-single_of-in-Sref.ensures (λ kept. kept)

pub returns-in_err-array_of-in-Aref : goal.returns-in_err-array_of-in-Aref
returns-in_err-array_of-in-Aref c =
    has_fault c.args.at c.args.own.now c.from_residual-in_err-array_of-in-Aref.result
    c.in-Aref.is c.in_err-array_of-in-Aref.ensures c.from_residual-in_err-array_of-in-Aref.ensures.1

pub returns-in_ok-array_of-in-Aref : goal.returns-in_ok-array_of-in-Aref
returns-in_ok-array_of-in-Aref c = keeps c.args.at c.args.own.now c.in-Aref.is c.in_ok-array_of-in-Aref.ensures (λ kept. kept)

pub returns-in-Text : goal.returns-in-Text
returns-in-Text c =
    elim c.in-Text.is [
      | inl e ↦ keeps_none c.args.at c.args.own.now e refl text
      | inr e ↦ keeps_none c.args.at c.args.own.now e refl node
    ]

pub returns-in_err-path-in-Path : goal.returns-in_err-path-in-Path
returns-in_err-path-in-Path c = out_of_memory _ _ c.from_residual-in_err-path-in-Path.result c.from_residual-in_err-path-in-Path.ensures.1

pub outline_of-requires-clause-two_bytes : goal.outline_of-requires-clause-two_bytes
outline_of-requires-clause-two_bytes c = sizes.datatype

pub outline_of-requires-in-BoxElement-clause-two_bytes : goal.outline_of-requires-in-BoxElement-clause-two_bytes
outline_of-requires-in-BoxElement-clause-two_bytes c = sizes.boxtype

pub shape_of-requires-in-Path-clause-two_bytes : goal.shape_of-requires-in-Path-clause-two_bytes
shape_of-requires-in-Path-clause-two_bytes c = sizes.datatype

pub shape_of-requires-in-Path-clause-range : goal.shape_of-requires-in-Path-clause-range
shape_of-requires-in-Path-clause-range c = c.path_kind_of.ensures.range
