-- What stood there is noted before it is replaced.
use Rattle.std.proofs.Common.{◌≡◌, ◌∷◌, ◌++◌, [], List, length, sym, ap, ◌∙◌, subst}
use Rattle.std.proofs.lemmas.List.Elements.{All-push}
use Rattle.ibc_forest.specs.NodeLevels.{rows_of}
use Rattle.ibc_forest.specs.Replacements.{AreLong}
use Rattle.ibc_forest.specs.declared.replacement.NotedPath.{NotedPath}
use Rattle.ibc_forest.proofs.OtherLeaves.{noted_back, one_long}
use Rattle.ibc_forest.proofs.replacing.put_noted.Goals as goal

pub returns-clause-noted : goal.returns-clause-noted
returns-clause-noted c =
    let before : NotedPath = c.in_ok-before.before in
    let items = c.push_reserved.ensures.items ∙ ap (λ (paths : List NotedPath). paths ++ before ∷ []) c.reserve.ensures.items in
    noted_back c.args.noted.now.items c.push_reserved.new.self.items before (rows_of c.args.rows.now) (rows_of c.put_path.new.rows) c.args.other.place _ items c.put_path.ensures
    c.in_ok-before.ensures.place c.in_ok-before.ensures.nodes

pub returns-clause-long : goal.returns-clause-long
returns-clause-long c =
    let before : NotedPath = c.in_ok-before.before in
    let items = c.push_reserved.ensures.items ∙ ap (λ (paths : List NotedPath). paths ++ before ∷ []) c.reserve.ensures.items in
    subst (AreLong (length c.args.rows.now)) (sym items)
    (All-push (λ (path : NotedPath). length path.nodes.items ≡ length c.args.rows.now) c.args.noted.now.items before c.requires.long
    (one_long before c.args.rows.now c.args.other.place c.in_ok-before.ensures.nodes))
