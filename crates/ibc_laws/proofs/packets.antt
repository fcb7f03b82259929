-- The second and the third law: each packet is handled once, and in order on ordered channels. And that what is
-- received was sent, and what is taken as an acknowledgement was written.
pub mod ReceivedOnce
pub mod SettledOnce
pub mod AcknowledgedReceived
pub mod Lasting
pub mod ReceiptsAndTimeouts
pub mod NotBoth
pub mod SecondLaw
pub mod SentInOrder
pub mod ReceivedInOrder
pub mod ThirdLaw
pub mod ReceivedWasSent
pub mod TakenAsWritten
