use Rattle.std.proofs.Common.{refl}
use Rattle.lines.proofs.Gathering.{gather-on, gather-full}
use Rattle.lines.proofs.rows.Rows.push.Goals as goal

pub returns-in_ok-push-2 : goal.returns-in_ok-push-2
returns-in_ok-push-2 c =
    λ rs g. gather-full rs c.args.row c.args.self.now _ c.len-at.result c.unwrap_or.result c.presence_bit.result
    g c.len-at.ensures c.unwrap_or.ensures c.presence_bit.ensures c.in_ok-push.ensures.items
    c.if-ends_word.ensures c.in_ok-push-2.ensures.items c.in_ok-push-2.ensures.len refl

pub returns-else-ends_word : goal.returns-else-ends_word
returns-else-ends_word c =
    λ rs g. gather-on rs c.args.row c.args.self.now _ c.len-at.result c.unwrap_or.result c.presence_bit.result
    g c.len-at.ensures c.unwrap_or.ensures c.presence_bit.ensures c.in_ok-push.ensures.items
    c.if-ends_word.ensures refl refl refl
